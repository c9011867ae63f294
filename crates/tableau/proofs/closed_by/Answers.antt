-- `tableau::closed_by` lets an or wait, and follows the moves of any other operator, for which any choice serves.
use Rattle.std.proofs.Common.{◌≡◌, refl, sym, ap, ◌∙◌, ℕ, arith, bit_or}
use Rattle.formula.specs.Rows.{operator_at}
use Rattle.tableau.proofs.CoreLaws.{moves-none}
use Rattle.tableau.proofs.closed_by.Goals as goal

pub returns-then-is_or : goal.returns-then-is_or
returns-then-is_or c =
    let or = sym c.is_or.ensures ∙ c.if-is_or.true in
    record {
      or_waits = λ _.
          record {
            set_is = refl;
            left = c.without-rest.ensures;
            waits = ap (bit_or c.args.had.waiting) c.power.ensures;
          };
      other_moves = λ q. let p = sym or ∙ q in let z : ◌≡◌ {A = ℕ} 0 1 = cc in absurd (omega arith);
    }

pub returns : goal.returns
returns c =
    let other = sym c.is_or.ensures ∙ c.if-is_or.false in
    record {
      or_waits = λ q. let p = sym other ∙ q in let z : ◌≡◌ {A = ℕ} 0 1 = cc in absurd (omega arith);
      other_moves = λ _.
          record {
            rest = c.without-rest.result;
            left = c.without-rest.ensures;
            gains = moves-none (operator_at c.args.rows.now c.args.s.0) c.args.s.0 c.args.had.set c.moved-grown.ensures;
            fringe_is = refl;
            waits = refl;
          };
    }
