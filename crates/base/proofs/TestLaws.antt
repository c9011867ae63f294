-- The value of a test from what it says: a test that fails is false, and two tests that hold together are equal. Assumes nothing.
use Rattle.std.proofs.Common.{◌≡◌, refl, subst, Bool, true, false, ℕ, T, eqb, eqb→eq}
use Rattle.std.proofs.Math.Dec.{eqb_refl}
use Rattle.base.proofs.BoolLaws.{by_test}

pub not_of_T : (b : Bool) → (T b → ⊥) → b ≡ false
not_of_T true h = absurd (h tt)
not_of_T false h = refl

pub same_truth : (a b : Bool) → (T a → T b) → (T b → T a) → a ≡ b
same_truth true b f g = by_test b (λ b. true ≡ b) (λ h. refl) (λ h. absurd (h (f tt)))
same_truth false true f g = absurd (g tt)
same_truth false false f g = refl

pub eqb_flip : (m n : ℕ) → eqb m n ≡ eqb n m
eqb_flip m n =
    same_truth (eqb m n) (eqb n m)
    (λ h. subst (λ (k : ℕ). T (eqb k m)) (eqb→eq m n h) (eqb_refl m))
    (λ h. subst (λ (k : ℕ). T (eqb k n)) (eqb→eq n m h) (eqb_refl n))
