-- `lasso::closed` asks each number inside s, at each of which the rows have a subformula. Assumes nothing.
use Rattle.std.proofs.Common.{rules, ℕ, List, ◌≡◌, ◌≤◌, ◌<◌, arith}
use Rattle.std.proofs.lemmas.Iterator.{serves_from_Range}
use Rattle.formula.specs.Access.{Placed}
use Rattle.formula.specs.Rows.{end_at}
use Rattle.lasso.specs.Inner.{FormulaAt}
use Rattle.lasso.proofs.CodeWritten.{few, held-inside, held-placed}
use Rattle.lasso.proofs.closed.Goals as goal

placed-inside : (rows : List ℕ) (e : ℕ) → FormulaAt rows e → (end : ℕ) → end ≡ end_at rows e → (k : ℕ) → e ≤ k → k < end → Placed rows k
placed-inside rows e held end is k l m = held-placed rows k (held-inside rows e held k l (omega arith))

pub end-requires : goal.end-requires
end-requires c = few _ _ c.requires

pub all-requires-clause-callable : goal.all-requires-clause-callable
all-requires-clause-callable c =
    let placed : (k : ℕ) → c.args.s.0 ≤ k → k < c.end.result → Placed c.args.rows.now k =
    placed-inside c.args.rows.now c.args.s.0 c.requires c.end.result c.end.ensures in
    serves_from_Range (λ x q r. search rules) (λ x l m. search (rules, placed))
