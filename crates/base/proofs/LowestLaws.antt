-- The lowest bit of a word stands where its trailing zeros end (`lowest_of`), and to clear bits that a word has is to take them off
-- (`taken_off`, `without_of`). Assumes nothing.
use Rattle.std.proofs.Common.{◌≡◌, refl, ap, subst, ◌∙◌, Bool, true, false, ◌&&◌, ℕ, ◌+◌, ◌^◌, ◌<◌, T, eqb, bit_and, bit_xor, w64, arith}
use Rattle.std.proofs.Common.{eqb-true}
use Rattle.std.specs.Int.{trailing_zeros}
use Rattle.std.proofs.lemmas.Bool.{eqb-false}
use Rattle.std.specs.Int.Bits.{xor_add_and}
use Rattle.std.proofs.lemmas.Nat.Bits.{bit_at-trailing_zeros}
use Rattle.base.specs.Bits.{bit, Lowest, Without}
use Rattle.base.proofs.BoolLaws.{to_T}
use Rattle.base.proofs.BitLaws.{bit-and, bit_other, set_off}
use Rattle.base.proofs.WordLaws.{same_bits}

-- where the trailing zeros end
pub lowest_of : (w : ℕ) → 0 < w → w < 2 ^ 64 → Lowest w (trailing_zeros w64 w)
lowest_of w h l =
    let (small, there, none_below) = bit_at-trailing_zeros w64 w h l in
    record {
      small = small;
      there = ap (λ (x : ℕ). eqb x 1) there;
      none_below = λ k m. ap (λ (x : ℕ). eqb x 1) (none_below k m);
    }

-- bits that a word has, cleared
pub taken_off : (w p : ℕ) → ((k : ℕ) → T (bit p k) → T (bit w k)) → bit_xor w p + p ≡ w
taken_off w p h =
    let both : bit_and w p ≡ p = same_bits (bit_and w p) p (λ k. bit-and w p k ∙ less (bit w k) (bit p k) (h k)) in
    omega (arith, xor_add_and w p)
  where
    less : (a b : Bool) → (T b → T a) → (a && b) ≡ b
    less true b f = refl
    less false true f = absurd (f tt)
    less false false f = refl

pub without_of : (w e : ℕ) → bit w e ≡ true → Without w e (bit_xor w (2 ^ e))
without_of w e h = record { bits = set_off w e h; less = taken_off w (2 ^ e) (λ k t. at k t (eqb k e) refl) }
  where
    at : (k : ℕ) → T (bit (2 ^ e) k) → (b : Bool) → eqb k e ≡ b → T (bit w k)
    at k t true q = to_T (bit w k) (ap (bit w) (eqb-true k e q) ∙ h)
    at k t false q = absurd (subst T (bit_other e k (eqb-false k e q)) t)
