-- What the inner functions of truth on a lasso promise. A reader of the public contract need not read it. Assumes nothing.
use Rattle.std.specs.Prelude.{◌≡◌, Bool, true, false, cond, List, [], ◌∷◌, ◌++◌, map, ℕ, ◌+◌, ◌≤◌, ◌<◌, eqb}
use Rattle.std.specs.Prelude.{ltb, length, get_or, take, drop, Result}
use Rattle.base.specs.Lists.{range, iterate}
use Rattle.base.specs.Bits.{bit}
use Rattle.base.specs.Sets.{Below, Toward}
use Rattle.formula.specs.Formula.{Formula, size}
use Rattle.formula.specs.Table.{Operator}
use Rattle.formula.specs.Rows.{operator_at, end_at}
use Rattle.formula.specs.Occurrence.{Guards, Occurs}
use Rattle.formula.specs.Access.{Placed}
use Rattle.lasso.specs.Lasso.{Lasso, Positions, leaf_at, joined, holds, sets, labelling, meets}
use Rattle.lasso.specs.Truth.{asked, written}
use Rattle.lasso.specs.Contract.{lasso, answer}
use Rattle.lasso.specs.declared.Refusal.{Refusal}
use Rattle.lasso.specs.declared.labeller.Labeller.{Labeller}
use Rattle.lasso.specs.declared.labeller.Moving.{Moving}

-- the lasso that is labelled
abbrev pub course : Labeller → Lasso
course l = lasso l.letters.now l.stem

-- the numbers of the columns that rounds move
abbrev pub numbers : Moving → List ℕ
numbers m = take m.count m.list

-- the successor of position i of n
abbrev pub after : (n stem i : ℕ) → ℕ
after n stem i = cond (eqb (i + 1) n) stem (i + 1)

-- j is that successor
pub record Successor (n stem i j : ℕ) : Type 0 where
  pub is : j ≡ after n stem i
  pub below : j < n

-- what an operator says of a position by the letter there, where subformulas are true as told there and at the successor; a fixpoint
-- has its body's truth
abbrev pub said : Operator → (letter : ℕ) → (here there : ℕ → Bool) → Bool
said (Operator.leaf l) letter here there = leaf_at l letter
said (Operator.variable m) letter here there = here m
said (Operator.pair o l r) letter here there = joined o (here l) (here r)
said (Operator.next l) letter here there = there l
said (Operator.fix g l) letter here there = here l

-- the same of the words there and at the successor
abbrev pub local : Operator → (letter here there : ℕ) → Bool
local op letter here there = said op letter (λ k. bit here k) (λ k. bit there k)

-- the same of position i, by the words of all positions
abbrev pub local_at : Lasso → Operator → List ℕ → ℕ → Bool
local_at c op w i = local op (get_or c.letters i 0) (get_or w i 0) (get_or w (after (length c.letters) c.stem i) 0)

-- the words v are w with the chosen bits of each of the first n as f says
pub record BitsChanged (n : ℕ) (chosen f : ℕ → Bool) (w v : List ℕ) : Type 0 where
  pub long : length v ≡ length w
  pub bits : (i : ℕ) → i < n → (k : ℕ) → bit (get_or v i 0) k ≡ cond (chosen k) (f i) (bit (get_or w i 0) k)
  pub rest : (i : ℕ) → n ≤ i → get_or v i 0 ≡ get_or w i 0

-- the same where bit e is chosen
abbrev pub Swept : (n e : ℕ) → (ℕ → Bool) → (w v : List ℕ) → Type 0
Swept n e f = BitsChanged n (λ k. eqb k e) f

-- the same where the bits of a mask are, all as told
abbrev pub BitsFilled : (n mask : ℕ) → (on : Bool) → (w v : List ℕ) → Type 0
BitsFilled n mask on = BitsChanged n (λ k. bit mask k) (λ _. on)

-- the words v are w with bit e of each position as the operator of e says; unless r is true, none was changed
pub record SweptBy (rows : List ℕ) (c : Lasso) (e : ℕ) (w v : List ℕ) (r : Bool) : Type 0 where
  pub swept : Swept (length c.letters) e (local_at c (operator_at rows e) w) w v
  pub still : r ≡ false → v ≡ w

-- the rows have the formula f at e, inside the fixpoints of the given numbers, innermost first
abbrev pub FormulaInRows : List ℕ → ℕ → Guards → List ℕ → Formula → Type 0
FormulaInRows rows = Occurs (operator_at rows) (end_at rows) 48

-- they have some formula there
pub record FormulaAt (rows : List ℕ) (e : ℕ) : Type 0 where
  pub guards : Guards
  pub binders : List ℕ
  pub subformula : Formula
  pub written : FormulaInRows rows e guards binders subformula

-- a lasso of n letters, and m words for it
pub record WordsRoom (n stem m : ℕ) : Type 0 where
  pub cycle : stem < n
  pub words : n ≤ m

-- what labelling e asks, with m words: the rows have a formula there, and each letter a word
pub record LabelReady (l : Labeller) (e m : ℕ) : Type 0 where
  pub held : FormulaAt l.rows.now e
  pub words : length l.letters.now ≤ m

-- e is a fixpoint, the greatest one if g
pub record Fixes (rows : List ℕ) (g : Bool) (e : ℕ) : Type 0 where
  pub body : ℕ
  pub is : operator_at rows e ≡ Operator.fix g body

-- what labelling it asks
pub record FixpointReady (l : Labeller) (g : Bool) (e m : ℕ) : Type 0 where
  pub held : FormulaAt l.rows.now e
  pub words : length l.letters.now ≤ m
  pub fixes : Fixes l.rows.now g e

-- whether an operator is a variable of a fixpoint before e
abbrev pub outside_of : ℕ → Operator → Bool
outside_of e (Operator.leaf l) = false
outside_of e (Operator.variable m) = ltb m e
outside_of e (Operator.pair o l r) = false
outside_of e (Operator.next l) = false
outside_of e (Operator.fix g l) = false

-- no variable inside e names a fixpoint around e
abbrev pub Alone : List ℕ → ℕ → Type 0
Alone rows e = (k : ℕ) → e ≤ k → k < end_at rows e → outside_of e (operator_at rows k) ≡ false

-- r tells whether that is so
pub record Closes (rows : List ℕ) (e : ℕ) (r : Bool) : Type 0 where
  pub yes : r ≡ true → Alone rows e
  pub no : r ≡ false → Alone rows e → ⊥

-- k stands in a closed subformula inside e
pub record Shut (rows : List ℕ) (e k : ℕ) : Type 0 where
  pub number : ℕ
  pub behind : e < number
  pub before : number ≤ k
  pub around : k < end_at rows number
  pub alone : Alone rows number

-- the bits of a mask are the subformulas of e that stand in no closed one inside e
pub record Open (rows : List ℕ) (e mask : ℕ) : Type 0 where
  pub inside : (k : ℕ) → bit mask k ≡ true → (e ≤ k) × (k < end_at rows e)
  pub apart : (k : ℕ) → bit mask k ≡ true → Shut rows e k → ⊥
  pub others : (k : ℕ) → e ≤ k → k < end_at rows e → bit mask k ≡ false → Shut rows e k

-- the elements of a list are numbers of subformulas that have a place in the rows
pub record Few (rows list : List ℕ) : Type 0 where
  pub placed : (j : ℕ) → j < length list → Placed rows (get_or list j 0)

-- what a pass over them asks, with m words
pub record PassReady (l : Labeller) (list : List ℕ) (m : ℕ) : Type 0 where
  pub few : Few l.rows.now list
  pub words : length l.letters.now ≤ m

-- they are bits of a mask
pub record BitsListed (mask : ℕ) (list : List ℕ) : Type 0 where
  pub all : (j : ℕ) → j < length list → bit mask (get_or list j 0) ≡ true

-- they stand in e, and in no closed subformula inside e
pub record Movable (rows : List ℕ) (e : ℕ) (list : List ℕ) : Type 0 where
  pub inside : (j : ℕ) → j < length list → (e ≤ get_or list j 0) × (get_or list j 0 < end_at rows e)
  pub apart : (j : ℕ) → j < length list → Shut rows e (get_or list j 0) → ⊥

-- what the rounds of the fixpoint e ask, which move them, with m words
pub record RoundsReady (l : Labeller) (moving : Moving) (e m : ℕ) : Type 0 where
  pub held : FormulaAt l.rows.now e
  pub words : length l.letters.now ≤ m
  pub fixes : Fixes l.rows.now moving.greatest e
  pub movable : Movable l.rows.now e (numbers moving)

-- bit e of the first n words: the set of positions that they have for subformula e
abbrev pub column : ℕ → List ℕ → ℕ → Positions
column n w e = map (λ x. bit x e) (take n w)

-- the same for the k subformulas from e on
abbrev pub columns : ℕ → List ℕ → ℕ → ℕ → List Positions
columns n w e k = map (column n w) (range e k)

-- the words v are w but for the columns from lo up to hi
pub record ColumnsKept (n lo hi : ℕ) (w v : List ℕ) : Type 0 where
  pub long : length v ≡ length w
  pub below : (k : ℕ) → k < lo → column n v k ≡ column n w k
  pub above : (k : ℕ) → hi ≤ k → column n v k ≡ column n w k
  pub rest : drop n v ≡ drop n w

-- the columns of f's subformulas become its sets, those of the enclosing fixpoints being their columns; all else is kept
pub record Labelled (c : Lasso) (f : Formula) (e : ℕ) (binders w v : List ℕ) : Type 0 where
  pub shown : columns (length c.letters) v e (size f) ≡ sets c f (map (column (length c.letters) w) binders)
  pub kept : ColumnsKept (length c.letters) e (e + size f) w v

-- the closed subformulas from lo up to hi are labelled
pub record ClosedKnown (rows : List ℕ) (c : Lasso) (lo hi : ℕ) (w : List ℕ) : Type 0 where
  pub shown : (k : ℕ) → lo ≤ k → k < hi → Alone rows k → (f : Formula) (guards : Guards) (binders : List ℕ)
      → FormulaInRows rows k guards binders f
      → columns (length c.letters) w k (size f) ≡ sets c f []

-- from a to b the value g is only left
abbrev pub Moves : (g a b : Bool) → Type 0
Moves false a b = Below a b
Moves true a b = Below b a

-- the subformulas that an operator names are below hi
abbrev pub Names : ℕ → Operator → Type 0
Names hi (Operator.leaf l) = Unit {0}
Names hi (Operator.variable m) = m < hi
Names hi (Operator.pair o l r) = (l < hi) × (r < hi)
Names hi (Operator.next l) = l < hi
Names hi (Operator.fix g l) = l < hi

-- one position of a pass, whose word w becomes v: bits leave the value g only, and only listed ones; and if their operators keep some
-- truth of the position and its successor, of which no bit below hi is past, then none of v is
pub record Turned (rows list : List ℕ) (letter there : ℕ) (g : Bool) (w v : ℕ) : Type 0 where
  pub kept : (k : ℕ) → ((j : ℕ) → j < length list → k ≡ get_or list j 0 → ⊥) → bit v k ≡ bit w k
  pub onward : (k : ℕ) → Moves g (bit w k) (bit v k)
  pub within : (hi : ℕ) (here next : ℕ → Bool)
      → ((j : ℕ) → j < length list → (here (get_or list j 0) ≡ said (operator_at rows (get_or list j 0)) letter here next)
      × Names hi (operator_at rows (get_or list j 0)))
      → ((k : ℕ) → k < hi → Moves g (bit there k) (next k)) → ((k : ℕ) → k < hi → Moves g (bit w k) (here k))
      → (k : ℕ) → k < hi → Moves g (bit v k) (here k)

-- no column below hi is past the set that ss has for it
pub record Under (n : ℕ) (g : Bool) (ss : List Positions) (hi : ℕ) (w : List ℕ) : Type 0 where
  pub at : (k : ℕ) → k < hi → (i : ℕ) → i < n → Moves g (bit (get_or w i 0) k) (get_or (get_or ss k []) i false)

-- each listed operator, which names numbers below hi, keeps the sets ss
pub record SetsKept (rows : List ℕ) (c : Lasso) (list : List ℕ) (hi : ℕ) (ss : List Positions) : Type 0 where
  pub names : (j : ℕ) → j < length list → Names hi (operator_at rows (get_or list j 0))
  pub right : (j : ℕ) → j < length list → (i : ℕ) → i < length c.letters
      → get_or (get_or ss (get_or list j 0) []) i false
      ≡ said (operator_at rows (get_or list j 0)) (get_or c.letters i 0) (λ k. get_or (get_or ss k []) i false)
      (λ k. get_or (get_or ss k []) (after (length c.letters) c.stem i) false)

-- a pass: the words w become v. Columns that are not listed are kept, the others move on, and past no sets that the operators keep.
pub record PassMade (rows : List ℕ) (c : Lasso) (list : List ℕ) (g : Bool) (w v : List ℕ) : Type 0 where
  pub long : length v ≡ length w
  pub rest : (i : ℕ) → length c.letters ≤ i → get_or v i 0 ≡ get_or w i 0
  pub kept : (i k : ℕ) → ((j : ℕ) → j < length list → k ≡ get_or list j 0 → ⊥) → bit (get_or v i 0) k ≡ bit (get_or w i 0) k
  pub onward : (i k : ℕ) → Moves g (bit (get_or w i 0) k) (bit (get_or v i 0) k)
  pub within : (hi : ℕ) (ss : List Positions) → SetsKept rows c list hi ss → Under (length c.letters) g ss hi w
      → Under (length c.letters) g ss hi v

-- the final sets of f, which stands at e, behind the columns of the numbers before it
abbrev pub goal : Lasso → List ℕ → (e : ℕ) → List ℕ → Formula → List Positions
goal c w e bs f = columns (length c.letters) w 0 e ++ sets c f (map (column (length c.letters) w) bs)

-- the rounds of the fixpoint at e, with the body a, that were begun with the words w and have come to v: no column is past its final
-- set, and so many rounds more bring the fixpoint's column there
pub record Going (rows : List ℕ) (c : Lasso) (g : Bool) (e : ℕ) (w bs : List ℕ) (a : Formula) (left : ℕ) (v : List ℕ) : Type 0 where
  pub kept : ColumnsKept (length c.letters) e (e + size (Formula.fix g a)) w v
  pub known : ClosedKnown rows c (e + 1) (end_at rows e) v
  pub under : Under (length c.letters) g (goal c w e bs (Formula.fix g a)) (e + size (Formula.fix g a)) v
  pub reaches : Toward g (holds c (Formula.fix g a) (map (column (length c.letters) w) bs))
      (iterate left (λ s. holds c a (s ∷ map (column (length c.letters) w) bs)) (column (length c.letters) v e))

-- the rounds are begun, all of them left
pub record Begun (rows : List ℕ) (c : Lasso) (g : Bool) (e : ℕ) (list w v : List ℕ) : Type 0 where
  pub movable : Movable rows e list
  pub kept : ColumnsKept (length c.letters) e (end_at rows e) w v
  pub started : (a : Formula) (guards : Guards) (binders : List ℕ) → FormulaInRows rows e guards binders (Formula.fix g a)
      → ClosedKnown rows c (e + 1) (end_at rows e) w → Going rows c g e w binders a (length c.letters) v

-- whatever formula the rows have at e is labelled, where the closed subformulas inside it from lo on are
pub record Evaluated (rows : List ℕ) (c : Lasso) (lo e : ℕ) (w v : List ℕ) : Type 0 where
  pub kept : ColumnsKept (length c.letters) e (end_at rows e) w v
  pub known : ClosedKnown rows c lo (end_at rows e) w → ClosedKnown rows c lo (end_at rows e) v
  pub done : ClosedKnown rows c lo (end_at rows e) w → (f : Formula) (guards : Guards) (binders : List ℕ)
      → FormulaInRows rows e guards binders f
      → Labelled c f e binders w v

-- the fixpoint at e is labelled, and closed subformulas inside it still are
pub record FixpointSettled (rows : List ℕ) (c : Lasso) (g : Bool) (e : ℕ) (w bs : List ℕ) (a : Formula) (v : List ℕ) : Type 0 where
  pub labelled : Labelled c (Formula.fix g a) e bs w v
  pub known : ClosedKnown rows c (e + 1) (end_at rows e) v

-- what rounds come to: so many are left, or one of them changed nothing and the fixpoint is labelled
abbrev pub Outcome : List ℕ → Lasso → (g : Bool) → (e : ℕ) → (w bs : List ℕ) → Formula → (left : ℕ) → (v : List ℕ) → Bool → Type 0
Outcome rows c g e w bs a left v true = Going rows c g e w bs a left v
Outcome rows c g e w bs a left v false = FixpointSettled rows c g e w bs a v

-- so many rounds are taken from any state of them, with what they come to; r tells whether the set still moves
pub record Rounded (rows : List ℕ) (c : Lasso) (g : Bool) (e left : ℕ) (w v : List ℕ) (r : Bool) : Type 0 where
  pub kept : ColumnsKept (length c.letters) e (end_at rows e) w v
  pub done : (a : Formula) (guards : Guards) (binders : List ℕ) → FormulaInRows rows e guards binders (Formula.fix g a)
      → (first : List ℕ) (more : ℕ)
      → Going rows c g e first binders a (left + more) w → Outcome rows c g e first binders a more v r

-- the closed subformulas from e on are labelled, where those behind e are
pub record ClosedLabelled (rows : List ℕ) (c : Lasso) (e : ℕ) (w v : List ℕ) : Type 0 where
  pub kept : ColumnsKept (length c.letters) e (end_at rows e) w v
  pub known : (hi : ℕ) → end_at rows e ≤ hi → ClosedKnown rows c (e + 1) hi w → ClosedKnown rows c e hi v

-- the truth at position 0 of the formula that the rows have, and the words
pub record TruthFound (rows : List ℕ) (c : Lasso) (b : Bool) (w v : List ℕ) : Type 0 where
  pub truth : (f : Formula) → FormulaInRows rows 0 [] [] f → b ≡ meets c f
  pub words : (f : Formula) → FormulaInRows rows 0 [] [] f → v ≡ labelling c f ++ drop (length c.letters) w

-- the questions after reading are asked of the formula that the rows have
pub record Judged (rows : List ℕ) (c : Lasso) (r : Result Bool Refusal) (w v : List ℕ) : Type 0 where
  pub answer : (f : Formula) → FormulaInRows rows 0 [] [] f → r ≡ answer (asked c (length w) f)
  pub words : (f : Formula) → FormulaInRows rows 0 [] [] f → v ≡ written (asked c (length w) f) w
