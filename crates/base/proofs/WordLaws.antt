-- The word of a list of bits: its bits are the list's elements, so equal words of one length are equal lists, and to put an element
-- into the set is to put the bit into the word. By recursion on the list: the head is the word's last digit, the tail its half. Where the
-- list has a function's values at the numbers below n, bit k is its value at k. Assumes nothing.
use Rattle.std.proofs.Common.{◌≡◌, refl, sym, ap, subst, ◌∙◌, Bool, true, false, cond, List, [], ◌∷◌, map, ℕ, zero, suc, ◌+◌, ◌/◌, ◌%◌}
use Rattle.std.proofs.Common.{◌^◌, ◌≤◌, ◌<◌, eqb, bit_or, length, get_or, set, arith, zero-add, shr-shr}
use Rattle.std.proofs.Math.ListN.{get_or-eq_default}
use Rattle.std.proofs.Math.Nat.{pow-succ'}
use Rattle.std.proofs.lemmas.Nat.Bits.{bit_at-lt, bit_at-zero, same_from_bits}
use Rattle.std.specs.Int.{bit_at}
use Rattle.base.specs.Lists.{range}
use Rattle.base.specs.Bits.{bit, word}
use Rattle.base.proofs.BitLaws.{set_on}
use Rattle.base.proofs.FillLaws.{set_at}
use Rattle.base.proofs.NumberLaws.{values_length, values_at}

-- bit 0 is the last digit, and the others are the bits of the half
pub bit_zero : (w : ℕ) → bit w 0 ≡ eqb (w % 2) 1
bit_zero w = ap (λ (x : ℕ). eqb (x % 2) 1) {x = w / 2 ^ 0} {y = w} (omega arith)

pub bit_suc : (w k : ℕ) → bit w (suc k) ≡ bit (w / 2) k
bit_suc w k = ap (λ (x : ℕ). eqb (x % 2) 1) (ap (λ (n : ℕ). w / 2 ^ n) {x = suc k} {y = 1 + k} (omega arith) ∙ sym (shr-shr w 1 k))

pub no-bit : (k : ℕ) → bit 0 k ≡ false
no-bit k = ap (λ (x : ℕ). eqb x 1) (bit_at-zero k)

word_half : (b : Bool) (v : List Bool) → word (b ∷ v) / 2 ≡ word v
word_half true v = omega arith
word_half false v = omega arith

word_odd : (b : Bool) (v : List Bool) → eqb (word (b ∷ v) % 2) 1 ≡ b
word_odd true v = ap (λ (x : ℕ). eqb x 1) {x = word (true ∷ v) % 2} {y = 1} (omega arith)
word_odd false v = ap (λ (x : ℕ). eqb x 1) {x = word (false ∷ v) % 2} {y = 0} (omega arith)

-- bit k of the word is element k of the list
pub word-bit : (v : List Bool) (k : ℕ) → bit (word v) k ≡ get_or v k false
word-bit [] k = no-bit k
word-bit (b ∷ v) zero = bit_zero (word (b ∷ v)) ∙ word_odd b v
word-bit (b ∷ v) (suc k) = bit_suc (word (b ∷ v)) k ∙ ap (λ (x : ℕ). bit x k) (word_half b v) ∙ word-bit v k

-- past the list there are no bits
pub word-past : (v : List Bool) (k : ℕ) → length v ≤ k → bit (word v) k ≡ false
word-past v k h = word-bit v k ∙ get_or-eq_default v false h

pub word_lt : (v : List Bool) → word v < 2 ^ length v
word_lt [] = omega arith
word_lt (true ∷ v) = omega (arith, word_lt v, pow-succ' 2 (length v))
word_lt (false ∷ v) = omega (arith, word_lt v, pow-succ' 2 (length v))

-- the word of a function's values at the numbers below n
module _ (f : ℕ → Bool) (n : ℕ) where
  pub values_bit : (k : ℕ) → k < n → bit (word (map f (range 0 n))) k ≡ f k
  values_bit k h = word-bit (map f (range 0 n)) k ∙ values_at f 0 n k false h ∙ ap f (zero-add k)

  pub values_past : (k : ℕ) → n ≤ k → bit (word (map f (range 0 n))) k ≡ false
  values_past k h = word-past (map f (range 0 n)) k (omega (arith, values_length f 0 n))

  pub values_lt : word (map f (range 0 n)) < 2 ^ n
  values_lt = subst (λ (m : ℕ). word (map f (range 0 n)) < 2 ^ m) (values_length f 0 n) (word_lt (map f (range 0 n)))

-- lists of one length with the same word are the same
pub word_inj : (v u : List Bool) → length v ≡ length u → word v ≡ word u → v ≡ u
word_inj [] [] l e = refl
word_inj [] (b ∷ u) l e = absurd (omega arith)
word_inj (b ∷ v) [] l e = absurd (omega arith)
word_inj (true ∷ v) (true ∷ u) l e = ap (λ (x : List Bool). true ∷ x) (word_inj v u (omega arith) (omega arith))
word_inj (true ∷ v) (false ∷ u) l e = absurd (omega arith)
word_inj (false ∷ v) (true ∷ u) l e = absurd (omega arith)
word_inj (false ∷ v) (false ∷ u) l e = ap (λ (x : List Bool). false ∷ x) (word_inj v u (omega arith) (omega arith))

-- two digits that are 1 together are equal
same_digit : (a b : ℕ) → a < 2 → b < 2 → eqb a 1 ≡ eqb b 1 → a ≡ b
same_digit zero zero h k e = refl
same_digit zero (suc zero) h k e = let y : ◌≡◌ {A = ℕ} 0 1 = cc in y
same_digit zero (suc (suc b)) h k e = absurd (omega arith)
same_digit (suc zero) zero h k e = let y : ◌≡◌ {A = ℕ} 1 0 = cc in y
same_digit (suc zero) (suc zero) h k e = refl
same_digit (suc zero) (suc (suc b)) h k e = absurd (omega arith)
same_digit (suc (suc a)) b h k e = absurd (omega arith)

-- two numbers with the same bits are equal
pub same_bits : (a b : ℕ) → ((k : ℕ) → bit a k ≡ bit b k) → a ≡ b
same_bits a b e =
    same_from_bits a b (λ k. same_digit (bit_at a k) (bit_at b k) (bit_at-lt a k) (bit_at-lt b k) (e k))

-- an element put into the set is a bit put into the word
pub word_set : (v : List Bool) (m : ℕ) → m < length v → word (set v m true) ≡ bit_or (word v) (2 ^ m)
word_set v m h =
    same_bits (word (set v m true)) (bit_or (word v) (2 ^ m))
    (λ k. word-bit (set v m true) k ∙ set_at false v m true h k
    ∙ sym (set_on (word v) m k ∙ ap (λ (b : Bool). cond (eqb k m) true b) (word-bit v k)))

-- the empty set
pub word_none : {A : Type 0} (xs : List A) → word (map (λ _. false) xs) ≡ 0
word_none [] = refl
word_none (x ∷ xs) = omega (arith, word_none xs)
