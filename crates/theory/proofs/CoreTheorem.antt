-- The theorem behind yes and no. Of a guarded formula, as every accepted one is: the lasso of any walk from the root to an accepting
-- cycle, its letters in order, is over the alphabet and meets the formula; a lasso over the alphabet, of any length, that meets it gives an
-- accepting cycle of a reachable node. So such a lasso meets the formula exactly if its tableau has a reachable accepting cycle. Assumes
-- nothing.
use mathlib.Core.Path.{◌≡◌, sym, ap, ◌∙◌, subst, subst⁻¹}
use mathlib.Core.Logic.{◌↔◌}
use mathlib.Core.Bool.{Bool, true, false, ◌&&◌}
use mathlib.Core.List.{List, [], ◌∷◌}
use Prim.Native.Nat.{◌<◌}
use native.Mathlib.Omega.{arith}
use lib.Dec.{T, ltb}
use borrow.Author.Tests.{ltb-true, lt-ltb}
use lib.ListN.{length, get_or, length-map}
use Rattle.base.proofs.BoolLaws.{of_T, to_T, and_left, and_right}
use Rattle.formula.specs.Formula.{Formula}
use Rattle.formula.specs.Table.{Operator, Table, table}
use Rattle.formula.specs.Occurrence.{Ranged, Guarded}
use Rattle.lasso.specs.Lasso.{Lasso, over_alphabet, meets, holds as lasso-holds}
use Rattle.lasso.proofs.TruthLaws.{over_exactly}
use Rattle.tableau.specs.Saturation.{Subset, has, nothing}
use Rattle.tableau.specs.Transition.{Transition}
use Rattle.tableau.specs.Nodes.{root}
use Rattle.tableau.proofs.SaturationLaws.{set_has}
use Rattle.tableau.proofs.NodeLaws.{root-length}
use Rattle.profile.specs.Traces.{Triple}
use Rattle.tableau.specs.Run.{Along}
use Rattle.profile.specs.Cycle.{Rejecting, AcceptingCycle, around}
use Rattle.theory.proofs.Semantics.{holds}
use Rattle.theory.proofs.Agreement.{orbit}
use Rattle.theory.proofs.TreeLaws.{Lawful, lawful, whole_part, whole_means, table-some}
use Rattle.theory.proofs.Walks.{Walk, along_walk, walk-join, walk-letters, Split, run_split}
use Rattle.theory.proofs.LapLaws.{cycle-triples}
use Rattle.theory.proofs.Soundness.{lasso_of, stem_short, cycle-holds}
use Rattle.theory.proofs.Completeness.{cycle-found}

-- what meeting a formula says
meets_of : (c : Lasso) (f : Formula) → meets c f ≡ true → (c.stem < length c.letters) × (get_or (lasso-holds c f []) 0 false ≡ true)
unfolding meets
meets_of c f e =
    let short = ltb c.stem (length c.letters) in
    let true_at_0 = get_or (lasso-holds c f []) 0 false in
    let z = to_T (short && true_at_0) e in
    (ltb-true c.stem (length c.letters) (of_T short (and_left short true_at_0 z)), of_T true_at_0 (and_right short true_at_0 z))

meets_in : (c : Lasso) (f : Formula) → c.stem < length c.letters → get_or (lasso-holds c f []) 0 false ≡ true → meets c f ≡ true
unfolding meets
meets_in c f h e = ap (λ (b : Bool). b && get_or (lasso-holds c f []) 0 false) (lt-ltb c.stem (length c.letters) h) ∙ e

-- Theorem: the letters of any walk to a cycle of any table, then those of the cycle, are a lasso over the alphabet.
pub cycle-over_alphabet : (t : Table) {v : Subset} {stem cycle : List Transition} → Along t (root t) stem v → AcceptingCycle t v cycle
    → over_alphabet (lasso_of stem cycle) ≡ true
unfolding over_alphabet
cycle-over_alphabet t {stem = stem} {cycle} a x =
    let q = run_split t x.run in
    subst⁻¹ (λ (ss : List Transition). over_alphabet (lasso_of stem ss) ≡ true) q.is
    (of_T (over_alphabet (lasso_of stem (q.s ∷ q.ss))) (walk-letters t (walk-join t (along_walk t a) q.walk)))

module _ (f : Formula) (guarded : Guarded [] f) (ranged : Ranged f) where
  abbrev t : Table
  t = table f

  law : Lawful t
  law = lawful f guarded ranged

  has_first : T (has (root t) 0)
  has_first = set_has (nothing t) 0 (omega (arith, table-some f guarded ranged, length-map t (λ (o : Operator). false)))

  -- Theorem: an accepting reachable cycle gives a lasso that meets the formula: the letters of any walk to it, then its own.
  pub cycle-meets : {v : Subset} {stem cycle : List Transition} → Along t (root t) stem v → AcceptingCycle t v cycle
      → meets (lasso_of stem cycle) f ≡ true
  cycle-meets {v} {stem} {cycle} a x =
      subst⁻¹ (λ (ss : List Transition). meets (lasso_of stem ss) f ≡ true) q.is
      (meets_in c f h (sym (whole_means f guarded ranged c h (λ m p. true)) ∙ true_at_0))
    where
      q : Split t (around v x.triple_set) cycle
      q = run_split t x.run

      c : Lasso
      c = lasso_of stem (q.s ∷ q.ss)

      lead : Walk t (root t) stem v
      lead = along_walk t a

      accepts : Rejecting t (cycle-triples t law v q.s q.ss) → ⊥
      accepts = subst (λ (xs : List Triple). Rejecting t xs → ⊥) q.triple_set x.accepts

      h : c.stem < length c.letters
      h = stem_short stem q.s q.ss

      true_at_0 : holds t (orbit c h) (whole_part f guarded ranged) (λ m p. true) 0 ≡ true
      true_at_0 = cycle-holds t law (root t) v (root-length t) stem q.s q.ss lead q.walk has_first accepts
          (whole_part f guarded ranged)

  -- Theorem: a lasso over the alphabet, of any length, that meets the formula gives an accepting reachable cycle.
  pub meets-cycle : (c : Lasso) → over_alphabet c ≡ true → meets c f ≡ true
      → (v : Subset) × (cycle : List Transition) × AcceptingCycle t v cycle
  meets-cycle c such e =
      let (h, z) = meets_of c f e in
      let letters = (over_exactly c).0 (to_T (over_alphabet c) such) in
      cycle-found t law (orbit c h) letters (whole_part f guarded ranged) (omega arith)
      (whole_means f guarded ranged c h (λ m p. false) ∙ z)

  -- The core theorem.
  pub satisfiable : ((c : Lasso) × (over_alphabet c ≡ true) × (meets c f ≡ true))
      ↔ ((v : Subset) × (cycle : List Transition) × AcceptingCycle t v cycle)
  satisfiable = (
    λ p. meets-cycle p.0 p.1 p.2,
    λ p.
        let (v, cycle, x) = p in
        let (stem, a) = x.reachable in
        (lasso_of stem cycle, cycle-over_alphabet t a x, cycle-meets a x),
  )
