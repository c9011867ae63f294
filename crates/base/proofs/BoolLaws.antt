-- A Bool as the statement that it is true: what the operators on Bools say, and proofs by cases on a test. Assumes nothing.
use Rattle.std.proofs.Common.{◌≡◌, refl, ◌⊎◌, inl, inr, Bool, true, false, ◌&&◌, ◌||◌, T}
use Rattle.std.proofs.Math.Path.{subst⁻¹}
use Rattle.base.specs.Lists.{same_bit}

-- by cases on a test, with the test's outcome as a fact
pub by_test : (b : Bool) (P : Bool → Type 0) → (T b → P true) → ((T b → ⊥) → P false) → P b
by_test true P f g = f tt
by_test false P f g = g (λ t. t)

pub of_T : (b : Bool) → T b → b ≡ true
of_T true h = refl
of_T false h = absurd h

pub to_T : (b : Bool) → b ≡ true → T b
to_T b e = subst⁻¹ T e tt

pub and_left : (a b : Bool) → T (a && b) → T a
and_left true b h = tt
and_left false b h = absurd h

pub and_right : (a b : Bool) → T (a && b) → T b
and_right true b h = h
and_right false b h = absurd h

pub and_both : (a b : Bool) → T a → T b → T (a && b)
and_both true b h k = k
and_both false b h k = absurd h

pub or_cases : (a b : Bool) → T (a || b) → T a ⊎ T b
or_cases true b h = inl tt
or_cases false b h = inr h

pub or_left : (a b : Bool) → T a → T (a || b)
or_left true b h = tt
or_left false b h = absurd h

pub or_right : (a b : Bool) → T b → T (a || b)
or_right true b h = tt
or_right false b h = h

pub same_bit-sound : (a b : Bool) → T (same_bit a b) → a ≡ b
same_bit-sound true true h = refl
same_bit-sound true false h = absurd h
same_bit-sound false true h = absurd h
same_bit-sound false false h = refl

pub same_bit_refl : (a : Bool) → T (same_bit a a)
same_bit_refl true = tt
same_bit_refl false = tt
