-- The core theorem for a formula that reading accepts, which is guarded and in range: a run in the shape of a lasso with an accepting cycle
-- gives a lasso over the alphabet that meets the formula (`run-such`, `run_holds`), and where no cycle is accepting, no lasso over the
-- alphabet meets it (`no-lasso`). Assumes nothing.
use mathlib.Core.Path.{◌≡◌}
use mathlib.Core.Bool.{true}
use mathlib.Core.List.{List}
use Prim.Native.Nat.{ℕ}
use Rattle.formula.specs.Formula.{Formula}
use Rattle.formula.specs.Table.{Table, table}
use Rattle.formula.specs.Reading.{Reading, parse}
use Rattle.formula.proofs.Guarded.{parse-guarded}
use Rattle.formula.proofs.Limits.{parse-limited}
use Rattle.lasso.specs.Lasso.{Lasso, over_alphabet, meets}
use Rattle.tableau.specs.Saturation.{Subset}
use Rattle.tableau.specs.Transition.{Transition}
use Rattle.tableau.specs.Foremost.{LassoRun}
use Rattle.profile.specs.Cycle.{AcceptingCycle}
use Rattle.theory.proofs.Soundness.{lasso_of}
use Rattle.theory.proofs.CoreTheorem.{cycle-over_alphabet, cycle-meets, meets-cycle}

-- a run from the root to an accepting cycle
abbrev pub AcceptingRun : Table → (stem cycle : List Transition) → Type 0
AcceptingRun t stem cycle = LassoRun t (AcceptingCycle t) stem cycle

pub run-such : {t : Table} {stem cycle : List Transition} → AcceptingRun t stem cycle → over_alphabet (lasso_of stem cycle) ≡ true
run-such {t} r = cycle-over_alphabet t r.leads r.counts

module _ (bytes : List ℕ) (f : Formula) (reads : parse bytes ≡ Reading.accepted f) where
  pub run_holds : {stem cycle : List Transition} → AcceptingRun (table f) stem cycle → meets (lasso_of stem cycle) f ≡ true
  run_holds r = cycle-meets f (parse-guarded bytes f reads) (parse-limited bytes f reads).signals r.leads r.counts

  pub no-lasso : ((v : Subset) (ss : List Transition) → AcceptingCycle (table f) v ss → ⊥)
      → (c : Lasso) → over_alphabet c ≡ true → meets c f ≡ true → ⊥
  no-lasso n c s h =
      let (v, ss, a) = meets-cycle f (parse-guarded bytes f reads) (parse-limited bytes f reads).signals c s h in
      n v ss a
