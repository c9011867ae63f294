-- `Tableau::go_on` goes on from one node after the other: after each turn the area holds what the search has found by then, and the
-- relation the transitions of the nodes passed, where it has room for them. It ends where there is no room for a node.
use Rattle.std.proofs.Common.{◌≡◌, ℕ, ◌+◌, ◌<◌, min, List, subst, arith, rules}
use Rattle.tableau.specs.Area.{Expanded}
use Rattle.tableau.specs.Steps.{StepsBefore}
use Rattle.tableau.specs.Found.{Finding, GoneOn}
use Rattle.tableau.proofs.NodeLoop.{find_turn, find_full}
use Rattle.tableau.proofs.StepLaws.{steps_turn}
use Rattle.tableau.proofs.formed.Tableau.go_on.Invariants.{Turned}
use Rattle.tableau.proofs.formed.Tableau.go_on.Goals as goal

module _ {rows : List ℕ} {count from to known capacity : ℕ} {area₀ o₀ rel₀ : List ℕ} {i all : ℕ} {area slots o rel : List ℕ}
    (t : Turned rows count from to known capacity area₀ o₀ rel₀ i all area slots o rel) where
  -- at the end of the part
  gone_on : i ≡ min to all → GoneOn rows count from to known capacity area₀ o₀ rel₀ area slots o rel all
  gone_on e = record {
    full = λ h a f. find_full (t.found a f) h;
    found = λ h a f. subst (λ (n : ℕ). Finding rows count capacity all n a area o) e (t.found a f);
    marked = λ h. t.marked;
    noted = λ h b s. subst (λ (n : ℕ). StepsBefore rows count n all area rel) e (t.noted b s);
  }

  -- where a node leads to more than there is room for
  gone_full : {area' slots' o' rel' : List ℕ} → i < all → Expanded rows count i all capacity area o area' o' (capacity + 1)
      → GoneOn rows count from to known capacity area₀ o₀ rel₀ area' slots' o' rel' (capacity + 1)
  gone_full l x = record {
    full = λ h a f. find_full (find_turn (t.found a f) l x) h;
    found = λ h. absurd (omega arith);
    marked = λ h. absurd (omega arith);
    noted = λ h. absurd (omega arith);
  }

pub returns-in_err-total-clause-gone_on : goal.returns-in_err-total-clause-gone_on
returns-in_err-total-clause-gone_on c =
    rw c.from_residual.ensures (gone_full c.loop-i.invariant c.if-total-i.false c.in_err-total.ensures.expanded)

pub loop-i-preserved : goal.loop-i-preserved
loop-i-preserved c =
    let more = c.in_ok-total.ensures in
    record {
      turn = omega (arith, more.bounds, c.if-total-i.false);
      high = more.bounds.1;
      same_area = search rules;
      same-notes = search rules;
      same_relation = search rules;
      marked = more.slots_marked;
      found = λ a f. find_turn (c.loop-i.invariant.found a f) c.if-total-i.false more.expanded;
      noted = λ b s.
          steps_turn (c.loop-i.invariant.noted b s) c.if-total-i.false more.bounds.0
          (more.steps_of (omega (arith, c.loop-i.invariant.same_relation, b c.loop-i.i c.loop-i-test.true)));
    }

pub returns-after-loop-i-clause-gone_on : goal.returns-after-loop-i-clause-gone_on
returns-after-loop-i-clause-gone_on c = gone_on c.loop-i.invariant (omega (arith, c.loop-i.invariant.turn, c.loop-i-test.false))

pub returns-then-total-i-clause-gone_on : goal.returns-then-total-i-clause-gone_on
returns-then-total-i-clause-gone_on c = gone_on c.loop-i.invariant (omega (arith, c.loop-i.invariant.turn, c.if-total-i.true))
