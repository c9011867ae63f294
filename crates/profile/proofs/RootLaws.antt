-- No transition of a formula's tableau leads to the root: it leads to operands of next, and an operand comes after its operator, so it is
-- not subformula 0. Hence the cycles of the tableau are those of nodes other than the root. Assumes nothing.
use mathlib.Core.Path.{◌≡◌, refl, sym, ap, subst, subst⁻¹, ◌∙◌}
use mathlib.Core.Logic.{inl, inr}
use mathlib.Core.Bool.{false}
use mathlib.Core.List.Memᴰ
use mathlib.Core.List.{List, [], ◌∷◌, Memᴰ}
use mathlib.Core.List.{Sublistᴰ}
use Prim.Native.Nat.{ℕ, ◌+◌, ◌<◌}
use native.Mathlib.Omega.{arith}
use lib.Dec.{T}
use lib.ListN.{length, length-map}
use Rattle.base.proofs.MemberLaws.{flat_map_of}
use Rattle.formula.specs.Formula.{Formula, size}
use Rattle.formula.specs.Table.{Operator, table_from, table}
use Rattle.tableau.specs.Saturation.{Subset, has, nothing, add}
use Rattle.tableau.specs.Transition.{next_of, Transition, transitions}
use Rattle.tableau.specs.Nodes.{operands, root}
use Rattle.tableau.proofs.SaturationLaws.{nothing-has, set_has, add_of}
use Rattle.tableau.proofs.TransitionLaws.{transition_to}

no_next : {o p : Operator} {g : ℕ} → o ≡ p → next_of p ≡ [] → Memᴰ g (next_of o) → ⊥
no_next {g} e n m = Memᴰ.not-nil (subst (λ (l : List ℕ). Memᴰ g l) (ap next_of e ∙ n) m)

pub operand-after : (f : Formula) (e : ℕ) (bs : List ℕ) {o : Operator} {g : ℕ} → Memᴰ o (table_from e bs f)
    → Memᴰ g (next_of o) → e < g
operand-after (Formula.leaf l) e bs m n = absurd (no_next (Memᴰ.eq_of_singleton m) refl n)
operand-after (Formula.variable d) e bs m n = absurd (no_next (Memᴰ.eq_of_singleton m) refl n)
operand-after (Formula.pair o a b) e bs m n =
    elim (Memᴰ.cases_cons m) [
      | inl q ↦ absurd (no_next q refl n)
      | inr r ↦
          elim (Memᴰ.append_cases (table_from (e + 1) bs a) r)
          [ inl h ↦ omega (arith, operand-after a (e + 1) bs h n) | inr h ↦ omega (arith, operand-after b (e + 1 + size a) bs h n) ]
    ]
operand-after (Formula.next a) e bs {g = g} m n =
    elim (Memᴰ.cases_cons m) [
      | inl q ↦ omega (arith, Memᴰ.eq_of_singleton (subst (λ (p : Operator). Memᴰ g (next_of p)) q n))
      | inr r ↦ omega (arith, operand-after a (e + 1) bs r n)
    ]
operand-after (Formula.fix k a) e bs m n =
    elim (Memᴰ.cases_cons m) [ inl q ↦ absurd (no_next q refl n) | inr r ↦ omega (arith, operand-after a (e + 1) (e ∷ bs) r n) ]

pub operands-after : (f : Formula) {g : ℕ} → Memᴰ g (operands (table f)) → 0 < g
unfolding table
operands-after f m = let (o, p, n) = flat_map_of next_of (table f) m in operand-after f 0 [] p n

part_in : {A : Type 0} {x : A} {l xs : List A} → Sublistᴰ l xs → Memᴰ x l → Memᴰ x xs
part_in Sublistᴰ.slnil m = m
part_in (Sublistᴰ.cons s) m = Memᴰ.tail (part_in s m)
part_in (Sublistᴰ.cons-cons e s) m = elim (Memᴰ.cases_cons m) [ inl q ↦ Memᴰ.head (q ∙ e) | inr r ↦ Memᴰ.tail (part_in s r) ]

table_nonempty : (f : Formula) (e : ℕ) (bs : List ℕ) → 0 < length (table_from e bs f)
table_nonempty (Formula.leaf l) e bs = omega arith
table_nonempty (Formula.variable d) e bs = omega arith
table_nonempty (Formula.pair o a b) e bs = omega arith
table_nonempty (Formula.next a) e bs = omega arith
table_nonempty (Formula.fix g a) e bs = omega arith

-- Theorem: a transition does not lead to the root.
pub root-apart : (f : Formula) (v : Subset) (s : Transition) → Memᴰ s (transitions (table f) v) → s.to ≡ root (table f) → ⊥
unfolding table
root-apart f v s m e =
    let t = table f in
    let (ms, p, q) = transition_to t v s m in
    let here : T (has (root t) 0) = set_has (nothing t) 0 (omega (arith, table_nonempty f 0 [], length-map t (λ _. false))) in
    let there : T (has (add ms (nothing t)) 0) = subst⁻¹ (λ (u : Subset). T (has u 0)) (sym q ∙ e) here in
    elim (add_of ms (nothing t) 0 there)
    [ inl h ↦ omega (arith, operands-after f (part_in p h.0)) | inr h ↦ nothing-has t 0 h ]
