-- `safety::Survey::write_course` writes the stem along the notes, and the cycle behind it.
use native.Mathlib.Omega.{arith}
use Rattle.tableau.specs.Inner.{table_of}
use Rattle.safety.proofs.AnswerLaws.{course-written}
use borrow.Author.Rules.{rules}
use Rattle.safety.proofs.Survey.write_course.Goals as goal

pub write_stem-requires : goal.write_stem-requires
write_stem-requires c =
    record {
      stem_noted = c.requires.stem_noted;
      letters_fit = record {
        count_is = c.stem_length-stem.ensures;
        room = omega (arith, c.stem_length-stem.ensures, c.requires.cycle_in_bounds);
      };
    }

pub write_cycle-requires : goal.write_cycle-requires
write_cycle-requires c =
    record { cycle_there = c.requires.cycle_there; cycle_in_bounds = search rules }

pub returns : goal.returns
returns c =
    let t = c.args.self.now.tableau.now.table in
    course-written (table_of t.rows t.count) c.args.origins.now c.args.node.0 c.stem_length-stem.ensures
    c.write_stem.ensures c.write_cycle.ensures
