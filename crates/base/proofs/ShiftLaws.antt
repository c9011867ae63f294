-- Bits of a number below a power of two: a shift moves them down, there are none from the exponent on, a remainder keeps those below it,
-- and these tell the number. Assumes nothing.
use Rattle.std.proofs.Common.{◌≡◌, sym, ap, subst, ◌∙◌, false, ℕ, ◌+◌, ◌-◌, ◌/◌, ◌%◌, ◌^◌, ◌≤◌, ◌<◌, T, eqb, arith, pow_pos, shr-shr}
use Rattle.std.proofs.Common.{mod-lt}
use Rattle.std.proofs.Math.Pow.{field, mod-mod-pow}
use Rattle.std.proofs.Math.Decide.{dec_lt}
use Rattle.std.proofs.lemmas.Nat.Bits.{bit_at_above}
use Rattle.base.specs.Bits.{bit}
use Rattle.base.proofs.WordLaws.{same_bits}

pub bit_shift : (w s k : ℕ) → bit (w / 2 ^ s) k ≡ bit w (s + k)
bit_shift w s k = ap (λ (x : ℕ). eqb (x % 2) 1) (shr-shr w s k)

pub bit_high : (n w k : ℕ) → w < 2 ^ n → n ≤ k → bit w k ≡ false
bit_high n w k h l = ap (λ (x : ℕ). eqb x 1) (bit_at_above w n k h l)

-- the bits of a remainder are those of the number below the exponent
pub low_below : (n w k : ℕ) → T (bit (w % 2 ^ n) k) → k < n
low_below n w k t = by (dec_lt k n)
  where
    by : Dec (k < n) → k < n
    by (yes l) = l
    by (no l) = absurd (subst T (bit_high n (w % 2 ^ n) k (mod-lt w (pow_pos n)) (omega arith)) t)

pub low_bit : (n w k : ℕ) → k < n → bit (w % 2 ^ n) k ≡ bit w k
low_bit n w k h =
    ap (λ (x : ℕ). eqb (x % 2) 1)
    (ap (λ (m : ℕ). w % 2 ^ m / 2 ^ k) {x = n} {y = ((n - k - 1) + 1) + k} (omega arith) ∙ field w ((n - k - 1) + 1) k)
    ∙ ap (λ (x : ℕ). eqb x 1) (mod-mod-pow (w / 2 ^ k) (n - k - 1) 1)

-- these bits tell a number below the power
pub same_low_bits : (n a b : ℕ) → a < 2 ^ n → b < 2 ^ n → ((k : ℕ) → k < n → bit a k ≡ bit b k) → a ≡ b
same_low_bits n a b p q h = same_bits a b (λ k. at k (dec_lt k n))
  where
    at : (k : ℕ) → Dec (k < n) → bit a k ≡ bit b k
    at k (yes l) = h k l
    at k (no l) = bit_high n a k p (omega arith) ∙ sym (bit_high n b k q (omega arith))
