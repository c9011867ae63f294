-- A step of the cycle. A transition to a set that is no node leads to no node that is so far away (`reached_absent`); the first choice word
-- that leads to such a node is found by trying one after another (`strays`, `goes`). Assumes nothing.
use mathlib.Core.Path.{◌≡◌, refl, sym, ap, subst, subst⁻¹, ◌∙◌}
use mathlib.Core.Logic.{inl, inr}
use mathlib.Core.Bool.{Bool, true, false}
use mathlib.Core.List.Memᴰ
use mathlib.Core.List.{List, [], ◌∷◌, Memᴰ}
use Prim.Native.Nat.{ℕ}
use lib.ListN.{length}
use Rattle.std.specs.Prelude.{Option, None, Some}
use Rattle.base.specs.Lists.{member}
use Rattle.base.specs.Bits.{word}
use Rattle.letters.specs.Requirements.{letter_of}
use Rattle.tableau.specs.Saturation.{Subset, saturate}
use Rattle.tableau.specs.Transition.{Transition, choice_of, by_word}
use Rattle.tableau.specs.Inner.{table_of, target, TargetBy}
use Rattle.tableau.specs.Area.{words_at}
use Rattle.tableau.specs.declared.Target.{Target}
use Rattle.tableau.proofs.TransitionLaws.{one_or_none, transition_with}
use Rattle.tableau.proofs.TargetLaws.{a_target}
use Rattle.tableau.proofs.SlotLaws as slots
use Rattle.safety.specs.Inner.{NodesThere, FarAt, OnwardOf, Goes, Strays}
use Rattle.safety.specs.declared.Step.{Step}

module _ {known : ℕ} {area marks : List ℕ} (steps : List ℕ) (there : NodesThere known area marks) {t : Option Target} (far : ℕ) where
  pub reached_absent : {x : Target} → t ≡ Some x → member x.to (words_at area 0 known) ≡ false → OnwardOf area steps known t far None
  reached_absent {x} e h y q m a =
      let s : x ≡ y = cc in
      let b : ◌≡◌ {A = Bool} false true =
      sym h ∙ slots.stands known area x.to m a.below (a.stands ∙ sym (ap (λ (z : Target). z.to) s)) in
      cc

-- a choice word, by what the code says of its transition
module _ (rows : List ℕ) {count x from : ℕ} (area steps : List ℕ) (known far : ℕ) {r : Option Target}
    (st : TargetBy rows count x from r) where
  -- the transition that it has
  has : (v : Subset) → length v ≡ count → from ≡ word v → {s : Transition} → Memᴰ s (by_word (table_of rows count) x v)
      → r ≡ Some (record { to = word s.to; required = s.required })
  has v l e {s} m =
      let t = table_of rows count in
      let w = choice_of t x in
      st.is v l e
      ∙ elim (one_or_none t w (saturate t w v)) [
        | inl p ↦ ap target p
            ∙ ap (λ (q : Transition). target (q ∷ [])) (sym (Memᴰ.eq_of_singleton (subst (Memᴰ s) p m)))
        | inr p ↦ absurd (Memᴰ.not-nil (subst (Memᴰ s) p m))
      ]

  pub strays : OnwardOf area steps known r far None → Strays rows count x from area steps known far
  strays o = record { is = λ v l e s m n a. o (record { to = word s.to; required = s.required }) (has v l e m) n a }

  pub goes : {step : Step} → OnwardOf area steps known r far (Some step) → Goes rows count x from area steps known far step.to.0 step.letter
  goes {step} (to, q, c, a) = record { is = by }
    where
      by : (v : Subset) → length v ≡ count → from ≡ word v
          → (s : Transition) × Memᴰ s (by_word (table_of rows count) x v) × (step.letter ≡ letter_of s.required)
          × FarAt area steps known (word s.to) far step.to.0
      by v l e =
          let t = table_of rows count in
          let w = choice_of t x in
          let z = a_target t w (saturate t w v) (sym q ∙ st.is v l e) in
          let s = transition_with t w (saturate t w v) in (
            s,
            subst⁻¹ (Memᴰ s) z.exists (Memᴰ.head refl),
            c ∙ ap letter_of z.required-is,
            record { below = a.below; stands = a.stands ∙ z.to_is; far_is = a.far_is },
          )
