-- Bits of numbers. A set of numbers below n is a list of n Bools, and as a word the number with these bits. Assumes nothing.
use Rattle.std.specs.Prelude.{◌≡◌, Bool, true, false, cond, List, [], ◌∷◌, ℕ, ◌+◌, ◌*◌, ◌/◌, ◌%◌, ◌^◌, ◌<◌, eqb}

-- bit e of a word: bit 0 is the lowest
abbrev pub bit : ℕ → ℕ → Bool
bit w e = eqb (w / 2 ^ e % 2) 1

-- the number whose bit e is element e of the list
abbrev pub word : List Bool → ℕ
word [] = 0
word (b ∷ v) = cond b 1 0 + 2 * word v

-- e is the lowest bit of a word
pub record Lowest (w e : ℕ) : Type 0 where
  pub small : e < 64
  pub there : bit w e ≡ true
  pub none_below : (k : ℕ) → k < e → bit w k ≡ false

-- r is a word without its bit e
pub record Without (w e r : ℕ) : Type 0 where
  pub bits : (k : ℕ) → bit r k ≡ cond (eqb k e) false (bit w k)
  pub less : r + 2 ^ e ≡ w
