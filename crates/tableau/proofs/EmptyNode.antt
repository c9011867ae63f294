-- MEANING 3.6. Nothing is saturated to nothing, so each transition of the empty node requires nothing and leads back to it with the flag of
-- the previous scale alone (`empty_transition`), and there is one, with no pick (`empty-transitions`). Assumes nothing.
use Rattle.std.proofs.Common.{◌≡◌, refl, ap, subst, ◌∙◌, Bool, true, false, cond, [], ◌∷◌, ◌/◌, ◌%◌, ◌^◌, arith, T, eqb, pow_pos}
use mathlib.Core.List.{Memᴰ}
use mathlib.Core.List.Memᴰ
use Rattle.base.proofs.MemberLaws.{range_in}
use Rattle.base.proofs.Inside.{inside_refl}
use Rattle.letters.specs.Requirements.{letter_of}
use Rattle.letters.proofs.LetterLaws.{nothing-required, letter-none, none-in_alphabet}
use Rattle.formula.specs.Table.{Table, is_or}
use Rattle.tableau.specs.Saturation.{Subset, has, nothing, saturate}
use Rattle.tableau.specs.Transition.{operators_in, ors, choice_of, choices, Transition, letter, transitions}
use Rattle.tableau.proofs.SaturationLaws.{inside-has, subset_ext, nothing-has, saturate-length, saturate-least}
use Rattle.tableau.proofs.RequirementLaws.{required-none}
use Rattle.tableau.proofs.TransitionLaws.{transition_with, transition_is, transition_in}

none_in : (t : Table) → operators_in t (nothing t) ≡ []
none_in [] = refl
none_in (o ∷ t) = none_in t

none_picked : (t : Table) → choice_of t 0 ≡ nothing t
none_picked [] = refl
none_picked (o ∷ t) = by (is_or o) (none_picked t)
  where
    by : (b : Bool) → choice_of t 0 ≡ nothing t → cond b (eqb (0 % 2) 1 ∷ choice_of t (0 / 2)) (false ∷ choice_of t 0) ≡ false ∷ nothing t
    by true h = ap (λ (w : Subset). false ∷ w) h
    by false h = ap (λ (w : Subset). false ∷ w) h

module _ (t : Table) where
  saturated_nothing : (w : Subset) → saturate t w (nothing t) ≡ nothing t
  saturated_nothing w =
      subset_ext (saturate t w (nothing t)) (nothing t) (saturate-length t w (nothing t))
      (λ e h. inside-has (saturate-least t w (inside_refl (nothing t)) (λ i m h r l. absurd (nothing-has t i h))) e h)
      (λ e h. absurd (nothing-has t e h))

  -- the transition of the empty node with a choice
  back : (w : Subset)
      → transition_with t w (saturate t w (nothing t)) ≡ record { choice = w; required = nothing-required; to = nothing t }
  back w = ap (transition_with t w) (saturated_nothing w) ∙ rw (none_in t, required-none)

  pub empty_transition : (x : Transition) → Memᴰ x (transitions t (nothing t))
      → (x.to ≡ nothing t) × (x.required ≡ nothing-required) × (letter x ≡ 0x4000)
  empty_transition x m =
      let e = transition_is t (nothing t) x m ∙ back x.choice in
      let r = ap (λ (y : Transition). y.required) e in
      (ap (λ (y : Transition). y.to) e, r, ap letter_of r ∙ letter-none)

  pub empty-transitions :
      Memᴰ (record { choice = nothing t; required = nothing-required; to = nothing t }) (transitions t (nothing t))
  empty-transitions =
      subst (λ (x : Transition). Memᴰ x (transitions t (nothing t))) (back (nothing t))
      (transition_in t (nothing t) (nothing t)
      (subst (λ (w : Subset). Memᴰ w (choices t)) (none_picked t)
      (Memᴰ.map (choice_of t) (range_in 0 (2 ^ ors t) 0 (omega arith) (omega (arith, pow_pos (ors t))))))
      (λ e h. absurd (nothing-has t e h)) 0x4000 none-in_alphabet
      (λ e h. absurd (nothing-has t e (subst (λ (s : Subset). T (has s e)) (saturated_nothing (nothing t)) h))))
