-- What the functions promise that search. A reader of the contract of `shortest` need not read it. Assumes nothing.
use Rattle.std.specs.Prelude.{◌≡◌, Bool, false, cond, not, ◌&&◌, ◌||◌, ◌⊎◌, List, ℕ, ◌*◌, ◌/◌, ◌%◌, ◌≤◌, ◌<◌, T, eqb, length, get_or, Option, None, Some}
use Rattle.base.specs.Bits.{bit}
use Rattle.relation.specs.Relation.{linked}
use Rattle.distances.specs.Walks.{Walk, Distances}
use Rattle.distances.specs.declared.Cycle.{Cycle}

-- a set of vertices as words of 64 bits: whether it has a vertex
unfoldable pub has_vertex : List ℕ → ℕ → Bool
has_vertex s x = bit (get_or s (x / 64) 0) (x % 64)

-- the vertices in word number `at` of a set
abbrev pub in_word : (at w : ℕ) → ℕ → Bool
in_word at w x = eqb (x / 64) at && bit w (x % 64)

-- The set s' is s with the vertices that pass a test, too.
pub record Joined (test : ℕ → Bool) (s s' : List ℕ) : Type 0 where
  pub long : length s' ≡ 16
  pub is : (x : ℕ) → has_vertex s' x ≡ (has_vertex s x || test x)

-- a step leads from the vertex to one that passes a test
pub record Leads (r : List ℕ) (test : ℕ → Bool) (x : ℕ) : Type 0 where
  pub next : ℕ
  pub passes : T (test next)
  pub link : T (linked r next x)

-- A number is noted at the vertices that pass a test, and those with a step to one of them are in the set s', with what s had.
pub record Expanded (r : List ℕ) (test : ℕ → Bool) (far : ℕ) (steps s steps' s' : List ℕ) : Type 0 where
  pub noted : (x : ℕ) → get_or steps' x 1024 ≡ cond (test x) far (get_or steps x 1024)
  pub long : length steps' ≡ 1024
  pub wide : length s' ≡ 16
  pub kept : (x : ℕ) → T (has_vertex s x) → T (has_vertex s' x)
  pub gained : (x : ℕ) → Leads r test x → T (has_vertex s' x)
  pub only : (x : ℕ) → T (has_vertex s' x) → T (has_vertex s x) ⊎ Leads r test x

-- In the first words the level is what the set has that was not seen, and that is seen now; the other words are as they were. If `any` is
-- false, the level has no vertex in the first words.
pub record Parted (words : ℕ) (set level seen level' seen' : List ℕ) (any : Bool) : Type 0 where
  pub long_level : length level' ≡ 16
  pub long_seen : length seen' ≡ 16
  pub level_is : (x : ℕ) → x < 64 * words → has_vertex level' x ≡ (has_vertex set x && not (has_vertex seen x))
  pub seen_is : (x : ℕ) → x < 64 * words → has_vertex seen' x ≡ (has_vertex seen x || has_vertex set x)
  pub level_rest : (x : ℕ) → 64 * words ≤ x → has_vertex level' x ≡ has_vertex level x
  pub seen_rest : (x : ℕ) → 64 * words ≤ x → has_vertex seen' x ≡ has_vertex seen x
  pub nothing : any ≡ false → (x : ℕ) → x < 64 * words → T (has_vertex level' x) → ⊥

-- No vertex is noted.
pub record Unnoted (steps : List ℕ) : Type 0 where
  pub long : length steps ≡ 1024
  pub is : (x : ℕ) → get_or steps x 1024 ≡ 1024

-- The shortest closed walk of a vertex has so many steps, and the list has the distances to it that are smaller.
pub record Closed (r : List ℕ) (to L : ℕ) (steps : List ℕ) : Type 0 where
  pub positive : 0 < L
  pub walk : Walk r to L to
  pub least : (n : ℕ) → 0 < n → Walk r to n to → L ≤ n
  pub distances : Distances r to L steps

-- What a search below a bound comes to: the length of the shortest closed walk of a vertex, which is below the bound, or that there is none
-- so short.
abbrev pub ShortestOf : (r : List ℕ) (to bound : ℕ) (steps : List ℕ) → Option ℕ → Type 0
ShortestOf r to bound steps None = (n : ℕ) → 0 < n → Walk r to n to → bound ≤ n
ShortestOf r to bound steps (Some L) = (L < bound) × Closed r to L steps

-- A vertex has a closed walk of so many steps, at most the count. No closed walk of a vertex before vertex v is shorter, and those of the
-- vertices before the cycle's are all longer.
pub record FirstOf (r : List ℕ) (count v : ℕ) (cycle : Cycle) : Type 0 where
  pub positive : 0 < cycle.length
  pub short : cycle.length ≤ count
  pub vertex : cycle.vertex < count
  pub closed : Walk r cycle.vertex cycle.length cycle.vertex
  pub least : (u n : ℕ) → u < v → 0 < n → Walk r u n u → cycle.length ≤ n
  pub first : (u n : ℕ) → u < cycle.vertex → 0 < n → Walk r u n u → cycle.length < n

-- The best of the vertices before v: none of them has a closed walk of at most `count` steps, or the first with the shortest is told.
abbrev pub Best : (r : List ℕ) (count v : ℕ) → Option Cycle → Type 0
Best r count v None = (u n : ℕ) → u < v → 0 < n → Walk r u n u → count < n
Best r count v (Some cycle) = FirstOf r count v cycle
