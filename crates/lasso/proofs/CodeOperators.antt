-- What the code knows of an operator in an arm `_`: it is none of the variants that other arms name. Assumes nothing.
use Rattle.std.proofs.Common.{◌≡◌, refl, Bool, ℕ}
use Rattle.formula.specs.Formula.{Leaf}
use Rattle.formula.specs.Table as definitions
use Rattle.formula.specs.Access.{decoded}
use Rattle.formula.specs.declared.Operator.{Operator}
use Rattle.formula.specs.declared.Operator.TheVariants.{Constant, Signal, Variable, Pair, Next, Fixpoint}
use Rattle.formula.specs.declared.Subformula.{Subformula}

-- none that names an operand
pub record NoOperand (op : Operator) : Type 0 where
  pub pair : (either : Bool) (l r : Subformula) → op ≡ Pair either l r → ⊥
  pub next : (l : Subformula) → op ≡ Next l → ⊥
  pub fix : (greatest : Bool) (b : Subformula) → op ≡ Fixpoint greatest b → ⊥

-- such an operator is a constant, a signal or a variable
pub by_leaf : (P : definitions.Operator → Type 0) → ((l : Leaf) → P (definitions.Operator.leaf l))
    → ((m : ℕ) → P (definitions.Operator.variable m)) → (op : Operator) → NoOperand op → P (decoded op)
by_leaf P leaf variable (Constant b) k = leaf (Leaf.constant b)
by_leaf P leaf variable (Signal present j) k = leaf (Leaf.signal present j)
by_leaf P leaf variable (Variable m) k = variable m.0
by_leaf P leaf variable (Pair either l r) k = absurd (k.pair either l r refl)
by_leaf P leaf variable (Next l) k = absurd (k.next l refl)
by_leaf P leaf variable (Fixpoint greatest b) k = absurd (k.fix greatest b refl)
