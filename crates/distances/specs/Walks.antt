-- Walks along a relation between vertices, which are numbers: closed walks, the shortest of them, and the distances to its vertex. Assumes
-- nothing.
use Rattle.std.specs.Prelude.{◌≡◌, List, ℕ, suc, ◌+◌, ◌*◌, ◌/◌, ◌≤◌, ◌<◌, T, length, get_or, Option, None, Some}
use Rattle.relation.specs.Relation.{linked}
use Rattle.distances.specs.declared.Cycle.{Cycle}

-- A walk of so many steps from one vertex to another: no step from the vertex itself; or a step from a to b that the relation has, and a
-- walk of one step less from b.
pub data Walk (r : List ℕ) (to : ℕ) : (steps from : ℕ) → Type 0 where
  stay : Walk r to 0 to
  step : {n a b : ℕ} → T (linked r b a) → Walk r to n b → Walk r to (suc n) a

-- The relation leads only from and to vertices below a count, which is at most 1,024, and its list has the blocks of these.
pub record Steps (r : List ℕ) (count : ℕ) : Type 0 where
  pub few : count ≤ 1024
  pub long : 1024 * ((count + 63) / 64) ≤ length r
  pub ends : (u a : ℕ) → T (linked r u a) → (u < count) × (a < count)

-- A vertex is n steps away from another: there is a walk of n steps, and none of fewer.
pub record Distance (r : List ℕ) (to n a : ℕ) : Type 0 where
  pub walk : Walk r to n a
  pub least : (m : ℕ) → Walk r to m a → n ≤ m

-- The list has the distances to a vertex that are below a bound: element a is n, for such an n, exactly if vertex a is n steps away. Past
-- the end of the list stands 1,024.
pub record Distances (r : List ℕ) (to below : ℕ) (steps : List ℕ) : Type 0 where
  pub sound : (a n : ℕ) → n < below → get_or steps a 1024 ≡ n → Distance r to n a
  pub complete : (a n : ℕ) → n < below → Distance r to n a → get_or steps a 1024 ≡ n

-- A closed walk is one of at least one step from a vertex to itself. Vertex v has one of L steps, and L is at most the count of the
-- vertices. No closed walk of any vertex is shorter, and those of the vertices before v are all longer. The list has the distances to v
-- that are below L, and an element for each number below 1,024.
pub record Shortest (r : List ℕ) (count v L : ℕ) (steps : List ℕ) : Type 0 where
  pub positive : 0 < L
  pub short : L ≤ count
  pub vertex : v < count
  pub closed : Walk r v L v
  pub least : (u n : ℕ) → 0 < n → Walk r u n u → L ≤ n
  pub first : (u n : ℕ) → u < v → 0 < n → Walk r u n u → L < n
  pub distances : Distances r v L steps
  pub long : length steps ≡ 1024

-- No vertex has a closed walk of at most as many steps as there are vertices.
pub record Acyclic (r : List ℕ) (count : ℕ) : Type 0 where
  pub none : (u n : ℕ) → 0 < n → n ≤ count → Walk r u n u → ⊥

-- What the answer says of a relation, with the list of steps that it leaves: there is no closed walk, or the shortest one is told.
abbrev pub Answered : (r : List ℕ) (count : ℕ) (steps : List ℕ) → Option Cycle → Type 0
Answered r count steps None = Acyclic r count
Answered r count steps (Some cycle) = Shortest r count cycle.vertex cycle.length steps
