-- What an operator asks, as the code does it: where its moves go, what it requires, and where it leads, put into words bit by bit. These
-- are in range where the operator's numbers are. Each law is a look at the operator. Assumes nothing.
use Rattle.std.proofs.Common.{◌≡◌, ap, subst, ◌∙◌, Bool, true, false, List, ℕ, ◌<◌, arith}
use Rattle.formula.specs.Formula.{Leaf}
use Rattle.formula.specs.Table.{Operator}
use Rattle.formula.specs.Access.{decoded, Fits, Placed}
use Rattle.formula.specs.declared.Operator as code
use Rattle.formula.proofs.FitLaws as fits
use Rattle.tableau.specs.Saturation.{moves}
use Rattle.tableau.specs.Transition.{requires, next_of}
use Rattle.tableau.specs.Inner.{Formed}
use Rattle.tableau.proofs.WordSets.{AllBelow, below_none, below_cons, below_one}

pub placed : {rows : List ℕ} {count e : ℕ} → Formed rows count → e < count → Placed rows e
placed {rows} {count} {e} f h = fits.placed rows count e f.few h (f.fits e h)

-- in range
pub moves-below : (n : ℕ) (o : Operator) (p : Bool) → Fits n o → AllBelow n (moves o p)
moves-below n (Operator.leaf l) p f = below_none n
moves-below n (Operator.variable m) p f = below_one n m f
moves-below n (Operator.pair true l r) true f = below_one n r f.1
moves-below n (Operator.pair true l r) false f = below_one n l f.0
moves-below n (Operator.pair false l r) p f = below_cons f.0 (below_one n r f.1)
moves-below n (Operator.next g) p f = below_none n
moves-below n (Operator.fix g b) p f = below_one n b f

pub next-below : (n : ℕ) (o : Operator) → Fits n o → AllBelow n (next_of o)
next-below n (Operator.leaf l) f = below_none n
next-below n (Operator.variable m) f = below_none n
next-below n (Operator.pair o l r) f = below_none n
next-below n (Operator.next g) f = below_one n g f
next-below n (Operator.fix g b) f = below_none n

pub signals_below : (p : Bool) (n : ℕ) (o : Operator) → Fits n o → AllBelow 16 (requires p o)
signals_below p n (Operator.leaf (Leaf.constant b)) f = below_none 16
signals_below true n (Operator.leaf (Leaf.signal true j)) f = below_one 16 j (omega arith)
signals_below true n (Operator.leaf (Leaf.signal false j)) f = below_none 16
signals_below false n (Operator.leaf (Leaf.signal true j)) f = below_none 16
signals_below false n (Operator.leaf (Leaf.signal false j)) f = below_one 16 j (omega arith)
signals_below p n (Operator.variable m) f = below_none 16
signals_below p n (Operator.pair o l r) f = below_none 16
signals_below p n (Operator.next g) f = below_none 16
signals_below p n (Operator.fix g b) f = below_none 16

-- What the code read of an operator: o is x, and x was found to be y.
module _ {o : Operator} {x : code.Operator} (read : o ≡ decoded x) where
  pub found-fits : (n : ℕ) {y : code.Operator} → x ≡ y → Fits n o → Fits n (decoded y)
  found-fits n is f = subst (Fits n) (read ∙ ap decoded is) f
