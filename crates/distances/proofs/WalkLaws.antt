-- Walks: the first step of one (`onward`), and where one can begin: at its end or where the relation leads from, so at a vertex that the
-- first words have (`walk_covered`), and a closed one at a vertex below the count (`closed-below`). Assumes nothing.
use Rattle.std.proofs.Common.{◌≡◌, refl, List, ℕ, zero, suc, ◌+◌, ◌*◌, ◌/◌, ◌≤◌, ◌<◌, T, length, arith}
use Rattle.relation.specs.Relation.{linked}
use Rattle.distances.specs.Walks.{Walk, Steps, Distance}

-- The vertices with steps lie in the first blocks, and the list has these.
pub record Rows (r : List ℕ) (words : ℕ) : Type 0 where
  pub long : 1024 * words ≤ length r
  pub fit : words ≤ 16
  pub cover : (u a : ℕ) → T (linked r u a) → a < 64 * words

-- the first step of a walk, and the rest
pub record Onward (r : List ℕ) (to n a : ℕ) : Type 0 where
  pub next : ℕ
  pub link : T (linked r next a)
  pub rest : Walk r to n next

pub onward : {r : List ℕ} {to n a : ℕ} → Walk r to (suc n) a → Onward r to n a
onward (Walk.step {b = b} l w) = record { next = b; link = l; rest = w }

-- a walk without steps
pub at_rest : {r : List ℕ} {to a : ℕ} → Walk r to 0 a → a ≡ to
at_rest Walk.stay = refl

-- a walk begins in the first words
pub walk_covered : {r : List ℕ} {words : ℕ} → Rows r words → {to n a : ℕ} → to < 64 * words → Walk r to n a → a < 64 * words
walk_covered s h Walk.stay = h
walk_covered s h (Walk.step {a = a} {b = b} l w) = s.cover b a l

-- a closed walk is one of a vertex
pub closed-below : {r : List ℕ} {count : ℕ} → Steps r count → (n u : ℕ) → 0 < n → Walk r u n u → u < count
closed-below s zero u h w = absurd (omega arith)
closed-below s (suc n) u h w = let o = onward w in (s.ends o.next u o.link).1

-- there is one distance
pub distance_one : {r : List ℕ} {to m n a : ℕ} → Distance r to m a → Distance r to n a → m ≡ n
distance_one {r} {to} {m} {n} p q = omega (arith, p.least n q.walk, q.least m p.walk)

-- the blocks that have the vertices
pub rows_of : {r : List ℕ} {count blocks : ℕ} → Steps r count → blocks ≡ (count + 63) / 64 → Rows r blocks
rows_of s e =
    record { long = omega (arith, s.long); fit = omega (arith, s.few); cover = λ u a l. omega (arith, (s.ends u a l).1) }

pub in_blocks : {count blocks to : ℕ} → blocks ≡ (count + 63) / 64 → to < count → to < 64 * blocks
in_blocks e h = omega arith
