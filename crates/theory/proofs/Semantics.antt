-- What truth on a lasso and moves in a tableau share: a lasso as functions of the position, the parts of a table with their truth by
-- rounds, and paths from a subformula at a position to another. Here the set of a fixpoint is found by its number, and not by its
-- depth. proofs/TreeLaws.antt says that this truth is the lasso's `holds`. Assumes nothing.
use mathlib.Core.Path.{◌≡◌, refl}
use mathlib.Core.Bool.{Bool, cond}
use mathlib.Core.List.{Memᴰ}
use Prim.Native.Nat.{ℕ, zero, suc, ◌≤◌, ◌<◌}
use lib.Dec.{T, eqb}
use Rattle.formula.specs.Formula.{Leaf}
use Rattle.formula.specs.Table.{Operator, Table, operator}
use Rattle.lasso.specs.Lasso.{leaf_at, joined}
use Rattle.tableau.specs.Saturation.{moves}
use Rattle.tableau.specs.Transition.{next_of}
use Rattle.tableau.proofs.TransitionLaws.{asks}

-- The positions of a lasso: how many, the successor of each, and the letter at each.
pub record LassoPositions : Type 0 where
  pub count : ℕ
  pub after : ℕ → ℕ
  pub after_lt : (i : ℕ) → i < count → after i < count
  pub letter : ℕ → ℕ

-- A set of positions, and by its number the set of each fixpoint.
abbrev pub PositionSet : Type 0
PositionSet = ℕ → Bool

abbrev pub Sets : Type 0
Sets = ℕ → PositionSet

abbrev pub put : Sets → ℕ → PositionSet → Sets
put σ e s m p = cond (eqb m e) (s p) (σ m p)

-- the k-th approximant of a fixpoint whose body is f
unfoldable pub approximant : ℕ → (PositionSet → PositionSet) → PositionSet → PositionSet
approximant zero f s = s
approximant (suc k) f s = f (approximant k f s)

-- What subformula e of the table is, with its operands, which stand behind it.
pub data Part (t : Table) : ℕ → Type 0 where
  leaf : {e : ℕ} (l : Leaf) → operator t e ≡ Operator.leaf l → Part t e
  variable : {e : ℕ} (m : ℕ) → operator t e ≡ Operator.variable m → Part t e
  pair : {e l r : ℕ} (o : Bool) → operator t e ≡ Operator.pair o l r → e < l → e < r → Part t l → Part t r → Part t e
  next : {e l : ℕ} → operator t e ≡ Operator.next l → e < l → Part t l → Part t e
  fix : (e : ℕ) {l : ℕ} (g : Bool) → operator t e ≡ Operator.fix g l → e < l → Part t l → Part t e

pub asks_leaf : (l : Leaf) (a : ℕ) → asks (Operator.leaf l) a ≡ leaf_at l a
asks_leaf (Leaf.constant b) a = refl
asks_leaf (Leaf.signal p j) a = refl

module _ (t : Table) (c : LassoPositions) where
  -- where a part is true, given the sets of the fixpoints around it
  unfoldable pub holds : {e : ℕ} → Part t e → Sets → PositionSet
  holds (Part.leaf l q) σ i = leaf_at l (c.letter i)
  holds (Part.variable m q) σ i = σ m i
  holds (Part.pair o q h k a b) σ i = joined o (holds a σ i) (holds b σ i)
  holds (Part.next q h a) σ i = holds a σ (c.after i)
  holds (Part.fix e g q h a) σ i = approximant c.count (λ s. holds a (put σ e s)) (λ j. g) i

  -- From x at p to y at q: a move within a transition, or from a next to its operand at the successor. At an or the move goes by ch: its
  -- right operand is picked at position p where ch x p is true.
  pub data Move (ch : ℕ → ℕ → Bool) (x p y q : ℕ) : Type 0 where
    within : Memᴰ y (moves (operator t x) (ch x p)) → q ≡ p → Move ch x p y q
    across : Memᴰ y (next_of (operator t x)) → q ≡ c.after p → Move ch x p y q

  -- Moves one after another; each comes to a subformula of at least lo.
  pub data Path (ch : ℕ → ℕ → Bool) (lo : ℕ) : ℕ → ℕ → ℕ → ℕ → Type 0 where
    here : {x p : ℕ} → Path ch lo x p x p
    step : {x p y q z r : ℕ} → Move ch x p y q → lo ≤ y → Path ch lo y q z r → Path ch lo x p z r

  -- What a subformula asks of its position by itself: a leaf is true there.
  abbrev pub LocallyTrue : ℕ → ℕ → Type 0
  LocallyTrue x p = T (asks (operator t x) (c.letter p))
