-- The bytes of the first operators, as a table in memory holds them: one operator more is its width more. Assumes nothing.
use mathlib.Core.Path.{◌≡◌, refl, sym, ap, ◌∙◌}
use mathlib.Core.List.{List, [], ◌∷◌}
use Prim.Native.Nat.{ℕ, zero, suc, ◌+◌, ◌*◌, ◌≤◌, ◌<◌}
use native.Mathlib.Omega.{arith}
use lib.ListN.{length, get_or}
use Rattle.base.proofs.NumberLaws.{values_at, values_length}
use Rattle.formula.specs.Table.{Table, width, bytes_before}
use Rattle.formula.specs.Occurrence.{nothing}
use Rattle.formula.specs.Rows.{operator_at, operators_of, length_at, end_at, lengths_of}
use Rattle.formula.specs.declared.Table as rows

before_more : (t : Table) (n : ℕ) → n < length t → bytes_before t (suc n) ≡ bytes_before t n + width (get_or t n nothing)
before_more [] n l = absurd (omega arith)
before_more (o ∷ t) zero l = omega arith
before_more (o ∷ t) (suc n) l = omega (arith, before_more t n (omega arith))

-- the first i operators in the rows, of however many
pub record Summed (rows : List ℕ) (n sum i : ℕ) : Type 0 where
  pub is : (m : ℕ) → n ≤ m → sum ≡ bytes_before (operators_of rows 0 m) i
  pub below : i ≤ n
  pub small : sum ≤ 2 * i

module _ (rows : List ℕ) (n : ℕ) where
  pub summed_none : Summed rows n 0 0
  summed_none = record { is = λ m l. refl; below = omega arith; small = omega arith }

  pub summed_more : {sum i w : ℕ} → Summed rows n sum i → i < n → (w ≡ width (operator_at rows i)) × (w ≤ 2)
      → Summed rows n (sum + w) (i + 1)
  summed_more {sum} {i} {w} h l (e, two) = record { is = more; below = omega arith; small = omega (arith, h.small) }
    where
      more : (m : ℕ) → n ≤ m → sum + w ≡ bytes_before (operators_of rows 0 m) (i + 1)
      more m k =
          let t = operators_of rows 0 m in
          let operator : get_or t i nothing ≡ operator_at rows i =
          values_at (operator_at rows) 0 m i nothing (omega arith) ∙ ap (operator_at rows) {x = 0 + i} {y = i} (omega arith) in
          omega (
            arith,
            h.is m k,
            e,
            ap width operator,
            before_more t i (omega (arith, values_length (operator_at rows) 0 m)),
            ap (bytes_before t) {x = suc i} {y = i + 1} (omega arith),
          )

-- the number after the last one inside subformula e, by its stored length
pub end_stored : (t : rows.Table) (e : ℕ) → e < t.count → end_at t.rows e ≡ e + get_or (lengths_of t.rows 0 t.count) e 0
end_stored t e l =
    ap (λ (n : ℕ). e + n)
    (sym (values_at (length_at t.rows) 0 t.count e 0 l ∙ ap (length_at t.rows) {x = 0 + e} {y = e} (omega arith)))
