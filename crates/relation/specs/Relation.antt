-- A relation between numbers below 1,024, as bits: the numbers that it leads from come in blocks of 64, and a block has a word of 64 bits
-- for each number that is led to. A list may end behind any of its blocks: what would stand there is not related. Assumes nothing.
use Rattle.std.specs.Prelude.{◌≡◌, Bool, false, ◌&&◌, ◌||◌, List, ℕ, ◌+◌, ◌*◌, ◌/◌, ◌%◌, ◌≤◌, eqb, ltb, length, get_or}
use Rattle.base.specs.Bits.{bit}

-- how many words a block has
abbrev pub block_words : ℕ
block_words = 1024

-- how many words there are in all blocks
abbrev pub relation_words : ℕ
relation_words = 16384

-- whether the relation leads from one number to another: bit `from % 64` of word `to` of block `from / 64`
unfoldable pub linked : List ℕ → (to from : ℕ) → Bool
linked r to from = ltb to 1024 && (ltb from 1024 && bit (get_or r (1024 * (from / 64) + to) 0) (from % 64))

-- the list has the block of a number that may be led from
abbrev pub HasBlock : List ℕ → (from : ℕ) → Type 0
HasBlock r from = 1024 * (from / 64) + 1024 ≤ length r

-- The relation r' is r, and leads from one number to another, too.
pub record Related (to from : ℕ) (r r' : List ℕ) : Type 0 where
  pub is : (u a : ℕ) → linked r' u a ≡ (linked r u a || (eqb u to && eqb a from))

-- The relation leads from nowhere to nowhere.
pub record Unrelated (r : List ℕ) : Type 0 where
  pub is : (u a : ℕ) → linked r u a ≡ false

-- The relation r' is r, in another list.
pub record Widened (r r' : List ℕ) : Type 0 where
  pub is : (u a : ℕ) → linked r' u a ≡ linked r u a
