-- What is asked of the rows is a fact, of which there is at most one proof: so it may stand in a ghost field.
use Rattle.std.specs.Prelude.{ℕ, ◌≤◌, ◌<◌, List}
use denote.Struct.Props.{props}
use Rattle.formula.specs.Formula.{Leaf}
use Rattle.formula.specs.Table.{Operator}
use Rattle.formula.specs.Rows.{operator_at}
use Rattle.formula.specs.Access.{Fits}
use Rattle.tableau.specs.Transition.{ors}
use Rattle.tableau.specs.Inner.{table_of, Formed}

Fits-prop : (n : ℕ) (o : Operator) → IsProp (Fits n o)
Fits-prop n (Operator.leaf (Leaf.constant b)) = hlevel props
Fits-prop n (Operator.leaf (Leaf.signal present j)) = hlevel props
Fits-prop n (Operator.variable m) = hlevel props
Fits-prop n (Operator.pair either l r) = hlevel props
Fits-prop n (Operator.next g) = hlevel props
Fits-prop n (Operator.fix greatest b) = hlevel props

pub Formed-prop : (rows : List ℕ) (count : ℕ) → IsProp (Formed rows count)
Formed-prop rows count x y =
    let some_prop : IsProp (0 < count) = hlevel props in
    let few_prop : IsProp (count ≤ 48) = hlevel props in
    let ors_prop : IsProp (ors (table_of rows count) ≤ 12) = hlevel props in
    λ i. record {
      some = some_prop x.some y.some i;
      few = few_prop x.few y.few i;
      fits = λ e h. Fits-prop count (operator_at rows e) (x.fits e h) (y.fits e h) i;
      few_ors = ors_prop x.few_ors y.few_ors i;
    }
