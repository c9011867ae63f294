-- Sets of subformulas that grow by their moves, with a fringe of those whose moves are still to be followed; and what every saturation of a
-- node has in common. What inner functions promise each other; a reader of the decision's contract need not read it. Assumes nothing.
use Rattle.std.specs.Prelude.{◌≡◌, true, false, ◌||◌, ℕ, ◌^◌, ◌<◌, T, length}
use mathlib.Core.List.{List, ◌++◌, Memᴰ}
use Rattle.std.specs.Int.Bits.{bit_or, bit_xor}
use Rattle.base.specs.Bits.{bit, word, Without}
use Rattle.base.specs.Sets.{Inside}
use Rattle.formula.specs.Table.{Operator, is_or}
use Rattle.formula.specs.Rows.{operator_at}
use Rattle.formula.specs.declared.Subformula.{Subformula}
use Rattle.tableau.specs.Saturation.{Subset, has, moves}
use Rattle.tableau.specs.Inner.{with_bits, LeadsNowhere, RequiredBy}
use Rattle.tableau.specs.declared.Closing.{Closing}
use Rattle.tableau.specs.declared.Core.{Core}
use Rattle.tableau.specs.declared.Gathered.{Gathered}

-- a set that the moves `go` of its subformulas do not leave
abbrev pub FollowsMoves : (ℕ → List ℕ) → Subset → Type 0
FollowsMoves go v = (e m : ℕ) → T (has v e) → Memᴰ m (go e) → m < length v → T (has v m)

-- A set that holds v and follows the moves `go` of its subformulas but those of the fringe, inside every set that holds v and follows all.
pub record MovesClosing (go : ℕ → List ℕ) (v : Subset) (set fringe : ℕ) : Type 0 where
  pub now : Subset
  pub word_is : set ≡ word now
  pub holds : Inside v now
  pub least : (x : Subset) → Inside v x → FollowsMoves go x → Inside now x
  pub part : (k : ℕ) → T (bit fringe k) → T (has now k)
  pub follows : (e m : ℕ) → T (has now e) → (T (bit fringe e) → ⊥) → Memᴰ m (go e) → m < length now → T (has now m)

-- The same of a node's word. The fringe has only subformulas, even where that is no set's word.
pub record Spread (go : ℕ → List ℕ) (count node set fringe : ℕ) : Type 0 where
  pub few : (k : ℕ) → T (bit fringe k) → k < count
  pub is : (v : Subset) → length v ≡ count → node ≡ word v → MovesClosing go v set fringe

-- A step, with what it asks and what it answers, puts into a set where the moves `go` of a subformula lead, and these are below count.
pub record Follows (pre : Subformula → ℕ → Type 0) (post : Subformula → ℕ → ℕ → Type 0) (count : ℕ) (go : ℕ → List ℕ) : Type 0 where
  pub asks : (s : Subformula) (set : ℕ) → s.0 < count → pre s set
  pub answers : (s : Subformula) (set r : ℕ) → s.0 < count → post s set r → r ≡ with_bits (go s.0) set
  pub below : (e m : ℕ) → e < count → Memᴰ m (go e) → m < count

-- the moves of a subformula under the choice of a word
abbrev pub moves_at : List ℕ → (choice e : ℕ) → List ℕ
moves_at rows choice e = moves (operator_at rows e) (bit choice e)

-- the moves of a subformula under the choices of two words
abbrev pub moves_both : List ℕ → (lower upper e : ℕ) → List ℕ
moves_both rows lower upper e = moves_at rows lower e ++ moves_at rows upper e

-- A turn with an or: it leaves the fringe and waits.
pub record WaitsMore (e : ℕ) (had r : Closing) : Type 0 where
  pub set_is : r.set ≡ had.set
  pub left : Without had.fringe e r.fringe
  pub waits : r.waiting ≡ bit_or had.waiting (2 ^ e)

-- A turn with another operator, whose moves are ms: it leaves the fringe, and what its moves add to the set enters it.
pub record MovesMore (ms : List ℕ) (e : ℕ) (had r : Closing) : Type 0 where
  pub rest : ℕ
  pub left : Without had.fringe e rest
  pub gains : r.set ≡ with_bits ms had.set
  pub fringe_is : r.fringe ≡ bit_or rest (bit_xor r.set had.set)
  pub waits : r.waiting ≡ had.waiting

-- A turn with the operator o of subformula e.
pub record ClosesBy (o : Operator) (e : ℕ) (had r : Closing) : Type 0 where
  pub or_waits : is_or o ≡ true → WaitsMore e had r
  pub other_moves : is_or o ≡ false → MovesMore (moves o false) e had r

-- Whatever the choice is, the node has grown so far: the moves of the fringe and of the ors that wait are still to be followed.
pub record ClosingOf (rows : List ℕ) (count node : ℕ) (c : Closing) : Type 0 where
  pub grows : (choice : ℕ) → Spread (moves_at rows choice) count node c.set (bit_or c.fringe c.waiting)
  pub ors_wait : (k : ℕ) → T (bit c.waiting k) → is_or (operator_at rows k) ≡ true

-- What is gathered of two sets together.
pub record Joined (a b r : Gathered) : Type 0 where
  pub present_is : r.required.present ≡ bit_or a.required.present b.required.present
  pub absent_is : r.required.absent ≡ bit_or a.required.absent b.required.absent
  pub falsum_is : r.falsum ≡ (a.falsum || b.falsum)
  pub to_is : r.to ≡ bit_or a.to b.to

-- What every saturation of a node has in common: whatever the choice is, the node has grown so far; what the set requires; and if that
-- cannot be, that the node has no transition.
pub record CoreOf (rows : List ℕ) (count : ℕ) (c : Core) : Type 0 where
  pub grows : (choice : ℕ) → Spread (moves_at rows choice) count c.node c.set c.fringe
  pub requires : RequiredBy rows count c.set c.gathered
  pub dead_end : c.fails ≡ true → (x : ℕ) → LeadsNowhere rows count c.node x
