-- What the functions over sets of triples promise. A set of triples is 144 bytes: byte 12 f + g has bit x for the triple (f, x, g). Through
-- this decoding a promise speaks of the tables of bits of the definitions. A reader of the decision's contract need not read it.
-- Assumes nothing.
use Rattle.std.specs.Prelude.{◌≡◌, Bool, ◌&&◌, ◌||◌, List, ℕ, ◌+◌, ◌*◌, ◌≤◌, ◌<◌, leb, get_or}
use Rattle.base.specs.Bits.{bit}
use Rattle.profile_tables.specs.Triples.{Triples, those, some, smaller, holds}

-- the bytes of a list
abbrev pub bytes : List ℕ → ℕ → ℕ
bytes l i = get_or l i 0

-- the bytes from a place on
abbrev pub bytes_from : List ℕ → (at : ℕ) → ℕ → ℕ
bytes_from l at i = get_or l (at + i) 0

-- whether bytes hold the triple (f, x, g)
abbrev pub bits : (ℕ → ℕ) → (f x g : ℕ) → Bool
bits b f x g = bit (b (f * 12 + g)) x

-- the triples of n operands that the bytes hold
abbrev pub triples_in : ℕ → List ℕ → Triples
triples_in n l = those n (bits (bytes l))

-- the same for the bytes from a place on
abbrev pub triples_at : ℕ → List ℕ → (at : ℕ) → Triples
triples_at n l at = those n (bits (bytes_from l at))

-- the bits of the byte r are as a test of priorities says
abbrev pub Bits : ℕ → (ℕ → Bool) → Type 0
Bits r q = (x : ℕ) → x < 8 → bit r x ≡ q x

-- some priority at least k
abbrev pub above : (ℕ → Bool) → ℕ → Bool
above a k = some 8 (λ j. leb k j && a j)

-- x is the smaller of a priority of the byte w and one of byte (m, g) of b
abbrev pub one_way : (w : ℕ) → List ℕ → (m x g : ℕ) → Bool
one_way w b m x g = smaller (bit w) (λ z. bits (bytes b) m z g) x

-- x joined to g from a priority in a row of bytes and one of b that meet in an operand below m
abbrev pub by_way : (ℕ → ℕ) → List ℕ → (m x g : ℕ) → Bool
by_way w b m x g = some m (λ k. one_way (w k) b k x g)

-- u is the row t, but that the first k columns have beside their priorities those that a test says
pub record RowWith (t : List ℕ) (k : ℕ) (q : (x g : ℕ) → Bool) (u : List ℕ) : Type 0 where
  pub row : (x g : ℕ) → x < 8 → g < k → bit (bytes u g) x ≡ (bit (bytes t g) x || q x g)
  pub rest : (i : ℕ) → k ≤ i → bytes u i ≡ bytes t i

-- u is the table t, but that the first k columns of row f are those of a row
pub record RowPut (t : List ℕ) (f k : ℕ) (row u : List ℕ) : Type 0 where
  pub put : (g : ℕ) → g < k → bytes u (f * 12 + g) ≡ bytes row g
  pub rest : (i : ℕ) → (f * 12 ≤ i → i < f * 12 + k → ⊥) → bytes u i ≡ bytes t i

-- row f has the same bytes in its first k columns
abbrev pub SameRow : List ℕ → (at : ℕ) → List ℕ → (f k : ℕ) → Type 0
SameRow l at t f k = (g : ℕ) → g < k → bytes_from l at (f * 12 + g) ≡ bytes t (f * 12 + g)

-- operand f leads back to itself with a priority that a test says
abbrev pub comes_back : (ℕ → Bool) → Triples → ℕ → Bool
comes_back least s f = some 8 (λ x. least x && holds s f x f)

-- some operand does
abbrev pub leads_back : (ℕ → Bool) → ℕ → Triples → Bool
leads_back least n s = some n (comes_back least s)
