-- Operators whose numbers are in range. What stands in a well formed table is so; and it stays so under a larger bound. Assumes nothing.
use Rattle.std.proofs.Common.{◌≡◌, List, ℕ, ◌≤◌, ◌<◌, arith}
use Rattle.std.specs.Prelude.{Result, Ok}
use Rattle.formula.specs.Formula.{Leaf}
use Rattle.formula.specs.Table.{Operator}
use Rattle.formula.specs.Rows.{operator_at, end_at, reading_of}
use Rattle.formula.specs.Reading.{reading}
use Rattle.formula.specs.Access.{Fits, Placed, Readable}
use Rattle.formula.specs.declared.Table.{Table}
use Rattle.formula.specs.declared.Refusal.{Refusal}
use Rattle.formula.proofs.WellFormed.{Operands, Shaped}
use Rattle.formula.proofs.RowLaws.{HoldsFormula, reading-held, held_shaped, held-few}

pub fits_more : {n : ℕ} (m : ℕ) → n ≤ m → (o : Operator) → Fits n o → Fits m o
fits_more m l (Operator.leaf (Leaf.constant b)) f = tt
fits_more m l (Operator.leaf (Leaf.signal present j)) f = f
fits_more m l (Operator.variable b) f = omega arith
fits_more m l (Operator.pair o a b) f = (omega (arith, f.0), omega (arith, f.1))
fits_more m l (Operator.next g) f = omega arith
fits_more m l (Operator.fix g b) f = omega arith

module _ (operator : ℕ → Operator) (end : ℕ → ℕ) (count : ℕ) where
  operands-fit : {e : ℕ} → end e ≤ count → e < count → (o : Operator) → Operands operator end count e o → Fits count o
  operands-fit h l (Operator.leaf (Leaf.constant b)) x = tt
  operands-fit h l (Operator.leaf (Leaf.signal present j)) x = x
  operands-fit h l (Operator.variable m) x = omega (arith, x.before)
  operands-fit h l (Operator.pair o a b) x = (omega (arith, x.order, x.inside), omega (arith, x.inside))
  operands-fit h l (Operator.next g) x = omega (arith, x.inside)
  operands-fit h l (Operator.fix g b) x = omega (arith, x.inside)

  pub shaped_fits : {e : ℕ} → Shaped operator end count e → Fits count (operator e)
  shaped_fits {e} s = operands-fit s.inside (omega (arith, s.some, s.inside)) (operator e) s.operands

pub placed : (rows : List ℕ) (n e : ℕ) → n ≤ 48 → e < n → Fits n (operator_at rows e) → Placed rows e
placed rows n e l h f = record { place = omega arith; fits = fits_more 48 l (operator_at rows e) f }

module _ {bytes : List ℕ} {t : Table} (h : HoldsFormula bytes t) where
  pub held_fits : (e : ℕ) → e < t.count → Fits t.count (operator_at t.rows e)
  held_fits e l = shaped_fits (operator_at t.rows) (end_at t.rows) t.count (held_shaped h e l)

  pub held-placed : (e : ℕ) → e < t.count → Placed t.rows e
  held-placed e l = placed t.rows t.count e (held-few h) l (held_fits e l)

  pub held_readable : Readable t
  held_readable = record { few = held-few h; placed = held-placed; ends = λ e l. (held_shaped h e l).inside }

-- what a caller of reading has with a table
pub accepted_readable : (bytes : List ℕ) (r : Result Table Refusal) {t : Table} → reading_of r ≡ reading bytes → r ≡ Ok t → Readable t
accepted_readable bytes r is a = held_readable (reading-held bytes r is a)
