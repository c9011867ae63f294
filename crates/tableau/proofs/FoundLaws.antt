-- What a part of the search for the nodes leaves. Where no node is left to go on from: the definition's nodes (`gone_held`), where each was
-- found from (`gone-origins`), and all their transitions, where the relation has room for them (`gone-noted`). Else, what the next part
-- begins with (`gone-found`, `gone_steps`). Assumes nothing.
use Rattle.std.proofs.Common.{Option, Some, None, IfSome, subst, List, ℕ, ◌≤◌, min, arith}
use Rattle.std.proofs.Math.Decide.{dec_lt}
use Rattle.tableau.specs.Origins.{Origins}
use Rattle.tableau.specs.Inner.{table_of}
use Rattle.tableau.specs.Area.{counted, NodesHeld, reachable}
use Rattle.tableau.specs.Steps.{StepsBefore, StepsNoted}
use Rattle.tableau.specs.Found.{Finding, HasBlocks, GoneOn, Searched}
use Rattle.tableau.proofs.NodeLoop.{find_end, find_origins}
use Rattle.tableau.proofs.StepLaws.{steps_end}

-- what holds of the number as it is counted, where there is room, holds of it where the code gives it
pub some_counted : (P : ℕ → Type 0) (capacity : ℕ) (r : Option ℕ) → IfSome r (λ n. n ≤ capacity)
    → (counted capacity r ≤ capacity → P (counted capacity r)) → IfSome r P
some_counted P capacity None h f = tt
some_counted P capacity (Some n) h f = f h

-- the first part
pub searched : {rows : List ℕ} {count to capacity r : ℕ} {a area o rel area' slots' o' rel' : List ℕ}
    → Finding rows count capacity 1 0 a area o → GoneOn rows count 0 to 1 capacity area o rel area' slots' o' rel' r
    → Searched rows count to capacity a rel area' slots' o' rel' r
searched {area = area} {o = o} f g = record { area = area; origins = o; begun = f; gone = g }

module _ {rows : List ℕ} {count from to known capacity r : ℕ} {area o rel area' slots' o' rel' : List ℕ}
    (g : GoneOn rows count from to known capacity area o rel area' slots' o' rel' r) where
  module _ {a : List ℕ} (f : Finding rows count capacity known from a area o) where
    -- also where there are more than room
    pub gone_held : (r ≤ capacity → r ≤ to) → NodesHeld capacity r a area' (reachable (table_of rows count))
    gone_held last =
        elim (dec_lt capacity r) [
          | yes h ↦ g.full h a f
          | no h ↦ let k = last (omega arith) in find_end (g.found (omega arith) a f) (omega arith) (omega arith)
        ]

    pub gone-origins : r ≤ capacity → r ≤ to → Origins (table_of rows count) o' r
    gone-origins h last = find_origins (g.found h a f) (omega arith) (omega arith)

    pub gone-found : r ≤ capacity → to ≤ r → Finding rows count capacity r to a area' o'
    gone-found h left = subst (λ (n : ℕ). Finding rows count capacity r n a area' o') {x = min to r} {y = to} (omega arith) (g.found h a f)

  pub gone-noted : r ≤ capacity → r ≤ to → HasBlocks rel to → StepsBefore rows count from known area rel
      → StepsNoted rows count r area' rel'
  gone-noted h last b s = steps_end (g.noted h b s) (omega arith) (omega arith)

  pub gone_steps : r ≤ capacity → to ≤ r → HasBlocks rel to → StepsBefore rows count from known area rel
      → StepsBefore rows count to r area' rel'
  gone_steps h left b s =
      subst (λ (n : ℕ). StepsBefore rows count n r area' rel') {x = min to r} {y = to} (omega arith) (g.noted h b s)
