-- The triples of a transition are exactly its traces (MEANING 4.1), for a formula that reading accepts and a reachable node other than the
-- root, with nothing left open: such a node has operands of next and nothing else in it, and moves stay in the table
-- (`triples_exactly`). A trace stays in the saturation, so the next that it comes to is met (`trace_met`). The root's traces
-- are left out: triples begin in operands of next, and subformula 0 is none, so a transition from the root has no triples
-- (`root_carries_none`). Nothing is lost by that: no transition leads back to the root (`root-apart`), so it is on no cycle, and no run
-- that begins elsewhere comes to it. Assumes nothing.
use mathlib.Core.Path.{◌≡◌, refl, subst⁻¹}
use mathlib.Core.Logic.{◌↔◌, inl, inr}
use mathlib.Core.List.{List, Memᴰ}
use Prim.Native.Nat.{ℕ, ◌<◌}
use native.Mathlib.Omega.{arith}
use lib.Dec.{T}
use lib.ListN.{length}
use Rattle.formula.specs.Formula.{Formula}
use Rattle.formula.specs.Table.{Operator, Table, table, operator}
use Rattle.formula.specs.Reading.{Reading, parse}
use Rattle.formula.proofs.Guarded.{parse-guarded}
use Rattle.formula.proofs.Limits.{parse-limited}
use Rattle.tableau.specs.Saturation.{Subset, has, nothing, saturate}
use Rattle.tableau.specs.Transition.{Transition, transitions, next_of}
use Rattle.tableau.specs.Nodes.{root, operands}
use Rattle.tableau.specs.Run.{Along, Reachable}
use Rattle.tableau.proofs.SaturationLaws.{inside-has, nothing-has, set_of, saturate-holds, saturate-length, saturate-closed}
use Rattle.tableau.proofs.TransitionLaws.{facts}
use Rattle.tableau.proofs.NodeLaws.{along_length, root-length, reachable-length}
use Rattle.profile.specs.Traces.{Triple, TraceState, triples}
use Rattle.profile.proofs.TraceLaws.{Goes, Trace, next-operand, triples_trace, trace_triples, triples-known}
use Rattle.profile.proofs.RootLaws.{operands-after}
use Rattle.theory.proofs.TreeLaws.{Lawful, lawful}

module _ (bytes : List ℕ) (f : Formula) (reads : parse bytes ≡ Reading.accepted f) where
  abbrev t : Table
  t = table f

  law : Lawful t
  law = lawful f (parse-guarded bytes f reads) (parse-limited bytes f reads).signals

  -- MEANING 3.1: a node other than the root has operands of next and nothing else in it
  pub node-operands : {v : Subset} → Reachable t v → (v ≡ root t → ⊥) → (y : ℕ) → T (has v y) → Memᴰ y (operands t) × (y < length t)
  node-operands (ss, Along.stay) n y h = absurd (n refl)
  node-operands (ss, Along.on {u} {s = s} a m) n y h =
      let (e, k, q) = (facts t u (along_length t (root-length t) a) s m).from_next y h in
      let i : Memᴰ y (next_of (operator t e)) = subst⁻¹ (λ (o : Operator). Memᴰ y (next_of o)) q (mathlib.Core.List.Memᴰ.head refl) in
      (next-operand t e y i, (law.next-inside e y i).1)

  -- Theorem: for a reachable node other than the root, a triple is among those of a transition exactly if it begins in the node and is a
  -- trace's.
  pub triples_exactly : (v : Subset) → Reachable t v → (v ≡ root t → ⊥) → (s : Transition) → Memᴰ s (transitions t v) → (a : Triple)
      → Memᴰ a (triples t v s.choice) ↔ (T (has v a.from) × Trace t s.choice a)
  triples_exactly v r n s m a = (
    λ i. triples_trace t v s.choice a i,
    λ h.
        let (p, l) = node-operands r n a.from h.0 in
        trace_triples t v s.choice (λ e k b i. (law.inside e k b i).1) a l p h.0 h.1,
  )

  goes-met : (v : Subset) {w : Subset} {e : ℕ} {s : TraceState} → length v ≡ length t → T (has v e) → Goes t w e s
      → T (has (saturate t w v) s.subformula)
  goes-met v {w} {e} q h Goes.begin = inside-has (saturate-holds t w v) e h
  goes-met v {w} q h (Goes.move {s} {m} g i) =
      saturate-closed t w v q s.subformula m (goes-met v q h g) i
      (omega (arith, saturate-length t w v, (law.inside s.subformula m (has w s.subformula) i).1))

  -- Theorem: the next that a trace comes to is in the saturation.
  pub trace_met : (v : Subset) → Reachable t v → (w : Subset) (a : Triple) → T (has v a.from) → (tr : Trace t w a)
      → T (has (saturate t w v) tr.last.subformula)
  trace_met v r w a h tr = goes-met v (reachable-length t r) h tr.goes

  -- Theorem: a transition from the root has no triples.
  pub root_carries_none : (w : Subset) (a : Triple) → Memᴰ a (triples t (root t) w) → ⊥
  root_carries_none w a m =
      elim (set_of (nothing t) 0 a.from (triples_trace t (root t) w a m).0) [
        | inl q ↦ omega (arith, q.0, operands-after f (triples-known t (root t) w a m).from_in)
        | inr h ↦ nothing-has t a.from h
      ]
