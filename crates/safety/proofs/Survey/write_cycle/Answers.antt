-- `safety::Survey::write_cycle` walks round the cycle and writes one letter a turn (`Walking`).
use mathlib.Core.Path.{refl}
use native.Mathlib.Omega.{arith}
use Rattle.safety.proofs.CycleSteps.{walk_start, some_step, walk-on, walked}
use Rattle.safety.proofs.Survey.write_cycle.Goals as goal

pub loop-i-init : goal.loop-i-init
loop-i-init c =
    let t = c.args.self.now.tableau.now.table in
    walk_start t.rows t.count c.requires.cycle_there _ _

pub step_on-s-requires : goal.step_on-s-requires
step_on-s-requires c =
    let t = c.args.self.now.tableau.now.table in
    record {
      surveyed = record { there = c.requires.cycle_there.there; long = c.requires.cycle_there.shortest.long };
      from_lt_known = c.loop-i.invariant.below;
      some_step = some_step t.rows t.count c.requires.cycle_there c.loop-i.invariant c.loop-i-test.true;
    }

pub bounds-letters-start : goal.bounds-letters-start
bounds-letters-start c =
    omega (arith, c.requires.cycle_in_bounds, c.loop-i-test.true, c.loop-i.invariant.same_length)

pub loop-i-preserved : goal.loop-i-preserved
loop-i-preserved c =
    let t = c.args.self.now.tableau.now.table in
    walk-on t.rows t.count c.requires.cycle_there c.loop-i.invariant c.loop-i-test.true
    c.step_on-s.ensures c.requires.cycle_in_bounds refl

pub shape_of-letters : goal.shape_of-letters
shape_of-letters c = c.loop-i.invariant.same_length

pub returns : goal.returns
returns c =
    let t = c.args.self.now.tableau.now.table in
    walked t.rows t.count c.requires.cycle_there c.loop-i.invariant c.loop-i-test.false
