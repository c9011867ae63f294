-- What the answer says of the shortest closed walk of all vertices (`through`): one more search from its vertex finds the same walk, and
-- its distances. A closed walk begins with a step, so its vertex is one below the count. Assumes nothing.
use Rattle.std.proofs.Common.{◌≡◌, subst, List, ℕ, ◌+◌, ◌≤◌, ◌<◌, length, Option, None, Some, arith}
use Rattle.distances.specs.Walks.{Walk, Steps, Distances, Shortest}
use Rattle.distances.specs.Inner.{ShortestOf, FirstOf}
use Rattle.distances.specs.declared.Cycle.{Cycle}
use Rattle.distances.proofs.WalkLaws.{closed-below}

module _ {r : List ℕ} {count : ℕ} {cycle : Cycle} (s : Steps r count) (h : FirstOf r count count cycle) where
  -- of any vertex
  least-all : (u n : ℕ) → 0 < n → Walk r u n u → cycle.length ≤ n
  least-all u n p w = h.least u n (closed-below s n u p w) p w

  pub through : {steps : List ℕ} (found : Option ℕ) → ShortestOf r cycle.vertex (cycle.length + 1) steps found → length steps ≡ 1024
      → Shortest r count cycle.vertex cycle.length steps
  through {steps} None q long = absurd (omega (arith, q cycle.length h.positive h.closed))
  through {steps} (Some L) q long =
      record {
        positive = h.positive;
        short = h.short;
        vertex = h.vertex;
        closed = h.closed;
        least = least-all;
        first = h.first;
        distances = subst (λ (n : ℕ). Distances r cycle.vertex n steps) same q.1.distances;
        long = long;
      }
    where
      same : L ≡ cycle.length
      same =
          omega (
            arith,
            q.0,
            q.1.least cycle.length h.positive h.closed,
            least-all cycle.vertex L q.1.positive q.1.walk,
          )
