-- What the functions of the tableau ask of the rows and promise of their results, in terms of the definitions. Sets of subformulas are
-- words in the code and lists of Bools in the definitions: a promise speaks of any list whose word is the code's. A reader of the
-- decision's contract need not read it. Assumes nothing.
use Rattle.std.specs.Prelude.{◌≡◌, Bool, not, ◌||◌, Option, Some, None, List, [], ◌∷◌, ℕ, ◌+◌, ◌*◌, ◌/◌, ◌%◌, ◌^◌, ◌≤◌, ◌<◌, T, eqb, length, get_or}
use Rattle.std.specs.Int.Bits.{bit_and, bit_or}
use Rattle.base.specs.Lists.{flat_map, any, range}
use Rattle.base.specs.Bits.{bit, word}
use Rattle.formula.specs.Table.{Operator, Table}
use Rattle.formula.specs.Rows.{operator_at, operators_of}
use Rattle.formula.specs.Access.{Fits}
use Rattle.tableau.specs.Saturation.{Subset, has, saturate}
use Rattle.tableau.specs.Transition.{operators_in, requires, is_false, requirement, next_of, ors, choice_of, Transition}
use Rattle.tableau.specs.Transition.{transition_of, by_word}
use Rattle.tableau.specs.declared.Gathered.{Gathered}
use Rattle.tableau.specs.declared.Target.{Target}

-- the table of the first count rows
abbrev pub table_of : List ℕ → ℕ → Table
table_of rows count = operators_of rows 0 count

-- What is asked of the rows. Those of an accepted formula are so (proofs/FormedLaws.antt).
pub record Formed (rows : List ℕ) (count : ℕ) : Type 0 where
  pub some : 0 < count
  pub few : count ≤ 48
  pub fits : (e : ℕ) → e < count → Fits count (operator_at rows e)
  pub few_ors : ors (table_of rows count) ≤ 12

-- a word with the bits of a list put in
abbrev pub with_bits : List ℕ → ℕ → ℕ
with_bits [] x = x
with_bits (m ∷ ms) x = with_bits ms (bit_or x (2 ^ m))

-- The node became r by saturation.
pub record Saturated (rows : List ℕ) (count choice node r : ℕ) : Type 0 where
  pub is : (w v : Subset) → length v ≡ count → choice ≡ word w → node ≡ word v → r ≡ word (saturate (table_of rows count) w v)

-- The choice word x is between low and high: of its bits at n ors it has those of low, and no others than those of high.
pub record ChoiceBetween (n low high x : ℕ) : Type 0 where
  pub above : (i : ℕ) → i < n → T (bit low i) → T (bit x i)
  pub below : (i : ℕ) → i < n → T (bit x i) → T (bit high i)

-- The set r holds every saturation of the node under a choice word between low and high.
pub record Widest (rows : List ℕ) (count low high node r : ℕ) : Type 0 where
  pub is : (v : Subset) → length v ≡ count → node ≡ word v → (x : ℕ) → ChoiceBetween (ors (table_of rows count)) low high x
      → (e : ℕ) → T (has (saturate (table_of rows count) (choice_of (table_of rows count) x) v) e) → T (bit r e)

-- The choice word x has no transition from the node.
pub record LeadsNowhere (rows : List ℕ) (count node x : ℕ) : Type 0 where
  pub is : (v : Subset) → length v ≡ count → node ≡ word v → by_word (table_of rows count) x v ≡ []

-- A choice word between low and high with a bit of r has no transition: it picks at an or that is not met.
pub record UnmetBetween (rows : List ℕ) (count low high node r : ℕ) : Type 0 where
  pub is : (x : ℕ) → ChoiceBetween (ors (table_of rows count)) low high x → (bit_and x r ≡ 0 → ⊥) → LeadsNowhere rows count node x

-- the bits that are unmet by the pick of a choice word at or j
abbrev pub unmet_at : List ℕ → (x j : ℕ) → ℕ
unmet_at r x j = get_or r (2 * j + x / 2 ^ j % 2) 0

-- whether a choice word has a bit that is unmet by one of its picks
abbrev pub is_unmet : List ℕ → ℕ → Bool
is_unmet r x = any (λ j. not (eqb (bit_and x (unmet_at r x j)) 0)) (range 0 12)

-- A choice word with a bit that is unmet by its pick at some or has no transition.
pub record UnmetOrs (rows : List ℕ) (count node : ℕ) (r : List ℕ) : Type 0 where
  pub is : (x j : ℕ) → j < 12 → (bit_and x (unmet_at r x j) ≡ 0 → ⊥) → LeadsNowhere rows count node x

-- What is gathered is r: what was gathered before, q, with what the operator o requires.
pub record RequiresMore (o : Operator) (q r : Gathered) : Type 0 where
  pub present_is : r.required.present ≡ with_bits (requires Bool.true o) q.required.present
  pub absent_is : r.required.absent ≡ with_bits (requires Bool.false o) q.required.absent
  pub falsum_is : r.falsum ≡ (q.falsum || is_false o)
  pub to_is : r.to ≡ with_bits (next_of o) q.to

-- What is gathered of the operators is r: what they require, all 16 bits of both words, whether one is false, and the operands of the
-- nexts.
pub record Required (os : List Operator) (r : Gathered) : Type 0 where
  pub required_is : r.required ≡ requirement os
  pub falsum_is : r.falsum ≡ any is_false os
  pub to_is : r.to ≡ with_bits (flat_map next_of os) 0

-- What is gathered of the subformulas of a set is r.
pub record RequiredBy (rows : List ℕ) (count set : ℕ) (r : Gathered) : Type 0 where
  pub is : (s : Subset) → length s ≡ count → set ≡ word s → Required (operators_in (table_of rows count) s) r

-- the code's answer for the definition's transition, if it exists
abbrev pub target : List Transition → Option Target
target [] = None
target (x ∷ xs) = Some (record { to = word x.to; required = x.required })

-- The step r of a node under a choice is the definition's.
pub record TargetIs (rows : List ℕ) (count choice node : ℕ) (r : Option Target) : Type 0 where
  pub is : (w v : Subset) → length v ≡ count → choice ≡ word w → node ≡ word v
      → r ≡ target (transition_of (table_of rows count) w (saturate (table_of rows count) w v))

-- The step r of a node under a choice word is the definition's.
pub record TargetBy (rows : List ℕ) (count x node : ℕ) (r : Option Target) : Type 0 where
  pub is : (v : Subset) → length v ≡ count → node ≡ word v → r ≡ target (by_word (table_of rows count) x v)
