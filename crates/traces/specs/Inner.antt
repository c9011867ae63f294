-- What the functions over traces promise. The marks of a subformula, the priorities with which traces reach it, are a byte with bit x for
-- the priority x. Operands of next and fixpoints go by their rank: how many begin before them. A reader of the decision's contract need not
-- read it. Assumes nothing.
use Rattle.std.specs.Prelude.{◌≡◌, Bool, true, cond, List, [], map, ℕ, zero, suc, ◌+◌, ◌*◌, ◌≤◌, ◌<◌, length, get_or}
use Rattle.base.specs.Lists.{range}
use Rattle.base.specs.Bits.{bit, word}
use Rattle.formula.specs.Table.{Operator, is_next, is_fix}
use Rattle.formula.specs.Rows.{operator_at}
use Rattle.tableau.specs.Saturation.{Subset, has, moves}
use Rattle.tableau.specs.Nodes.{operands}
use Rattle.tableau.specs.Inner.{table_of}
use Rattle.profile_tables.specs.Marks.{Marks, priorities, passed, mark, sweep, reached, triples, leasts, blank}
use Rattle.triples.specs.Inner.{triples_in}
use Rattle.traces.specs.declared.Ranks.{Ranks}

-- how many numbers below e a test holds of
abbrev pub before : (ℕ → Bool) → ℕ → ℕ
before q zero = 0
before q (suc e) = let r = before q e in cond (q e) (suc r) r

-- whether subformula e is a next
abbrev pub next_at : List ℕ → ℕ → Bool
next_at rows e = is_next (operator_at rows e)

-- whether it is a fixpoint
abbrev pub fix_at : List ℕ → ℕ → Bool
fix_at rows e = is_fix (operator_at rows e)

-- how many next begin before it
abbrev pub next_rank : List ℕ → ℕ → ℕ
next_rank rows = before (next_at rows)

-- how many fixpoints begin before it
abbrev pub fix_rank : List ℕ → ℕ → ℕ
fix_rank rows = before (fix_at rows)

-- What is asked of the rows beside their form, which a tableau has: a subformula behind each next, which is its operand (MEANING 1.3), and
-- not more next and fixpoints than bytes have room for. Those of an accepted formula are so (proofs/LimitLaws.antt).
pub record RowsLimited (rows : List ℕ) (count : ℕ) : Type 0 where
  pub behind : (e : ℕ) → e < count → next_at rows e ≡ true → e + 1 < count
  pub few_nexts : length (operands (table_of rows count)) ≤ 12
  pub few_fixes : length (leasts (table_of rows count)) ≤ 7

-- An array has the ranks of the first e subformulas.
abbrev pub HasRanks : (ℕ → ℕ) → (e : ℕ) → List ℕ → Type 0
HasRanks rank e l = (d : ℕ) → d < e → get_or l d 0 ≡ rank d

-- The ranks r are those of the rows.
pub record RanksOf (rows : List ℕ) (count : ℕ) (r : Ranks) : Type 0 where
  pub nexts_are : r.nexts ≡ length (operands (table_of rows count))
  pub next_is : HasRanks (next_rank rows) count r.next
  pub fix_is : HasRanks (fix_rank rows) count r.fix

-- the marks in the first n bytes
abbrev pub marks_of : ℕ → List ℕ → Marks
marks_of n b = map (λ e. priorities (bit (get_or b e 0))) (range 0 n)

-- The marks r are the marks b with the priorities w at the subformulas ms too.
abbrev pub PrioritiesMarked : List ℕ → (w : ℕ) → List ℕ → List ℕ → Type 0
PrioritiesMarked ms w b r = (n : ℕ) → n ≤ 48 → marks_of n r ≡ mark ms (priorities (bit w)) (marks_of n b)

-- The marks r are the marks b with what operator o of subformula e, with rank k where it is a fixpoint, passes on.
abbrev pub PassedOn : Operator → (right : Bool) → (e k : ℕ) → List ℕ → List ℕ → Type 0
PassedOn o right e k b r =
    (n : ℕ) → e < n → n ≤ 48 → marks_of n r ≡ mark (moves o right) (passed o k (get_or (marks_of n b) e [])) (marks_of n b)

-- The marks r are the marks b after one sweep.
abbrev pub SweptMarks : List ℕ → (count choice : ℕ) → List ℕ → List ℕ → Type 0
SweptMarks rows count choice b r =
    (w : Subset) → choice ≡ word w → marks_of count r ≡ sweep (table_of rows count) w 0 0 (marks_of count b)

-- The marks r are those of the traces from f.
abbrev pub TracesReached : List ℕ → (count choice f : ℕ) → List ℕ → Type 0
TracesReached rows count choice f r = (w : Subset) → choice ≡ word w → marks_of count r ≡ reached (table_of rows count) w f

-- Row f has the marks of each next before e.
abbrev pub RowOf : List ℕ → List ℕ → (e f : ℕ) → List ℕ → Type 0
RowOf rows marks e f t = (d : ℕ) → d < e → next_at rows d ≡ true → get_or t (f * 12 + next_rank rows d) 0 ≡ get_or marks d 0

-- Only row f differs.
abbrev pub OtherRows : ℕ → List ℕ → List ℕ → Type 0
OtherRows f t r = (i : ℕ) → (i < f * 12 → get_or r i 0 ≡ get_or t i 0) × (f * 12 + 12 ≤ i → get_or r i 0 ≡ get_or t i 0)

-- Row f has the marks of each next before e, and only row f of t changed.
pub record RowFilled (rows marks : List ℕ) (e f : ℕ) (t r : List ℕ) : Type 0 where
  pub filled : RowOf rows marks e f r
  pub others : OtherRows f t r

-- The rows of the nexts before e are those of the definition,
abbrev pub Done : List ℕ → (count choice node e : ℕ) → List ℕ → Type 0
Done rows count choice node e t =
    (v w : Subset) → node ≡ word v → choice ≡ word w → (i d : ℕ) → i < e → next_at rows i ≡ true → d < count → next_at rows d ≡ true
    → priorities (bit (get_or t (next_rank rows i * 12 + next_rank rows d) 0))
    ≡ cond (has v (suc i)) (get_or (reached (table_of rows count) w (suc i)) d []) blank

-- and the rows from k on are empty.
abbrev pub Empty : ℕ → List ℕ → Type 0
Empty k t = (i : ℕ) → k * 12 ≤ i → i < 144 → get_or t i 0 ≡ 0

-- Both.
pub record DoneTo (rows : List ℕ) (count choice node e : ℕ) (t : List ℕ) : Type 0 where
  pub done : Done rows count choice node e t
  pub empty : Empty (next_rank rows e) t

-- The bytes r have the triples of the transition of a node under a choice.
abbrev pub TriplesOf : List ℕ → (count choice node : ℕ) → List ℕ → Type 0
TriplesOf rows count choice node r =
    (v w : Subset) → node ≡ word v → choice ≡ word w
    → triples_in (length (operands (table_of rows count))) r ≡ triples (table_of rows count) v w
