-- The first least fixpoint is sought operator by operator: what is left to be sought among is the table from there on (`Seeking`).
-- Assumes nothing.
use mathlib.Core.Path.{◌≡◌, sym, ap, ◌∙◌}
use mathlib.Core.Bool.{Bool, true, false, cond}
use mathlib.Core.List.{List}
use Rattle.std.specs.Prelude.{None, Some}
use Prim.Native.Nat.{ℕ, suc, ◌+◌, ◌-◌, ◌*◌, ◌≤◌, ◌<◌}
use native.Mathlib.Omega.{arith}
use Rattle.formula.specs.Table.{Operator, width}
use Rattle.formula.specs.Rows.{operator_at, operators_of}
use Rattle.profile.specs.Profiles.{is_least}
use Rattle.tableau.specs.Inner.{table_of}
use Rattle.safety.specs.Safety.{first_least}

-- the first e operators are no least fixpoints, and have the bytes before a place
pub record Seeking (rows : List ℕ) (count place e : ℕ) : Type 0 where
  pub passed : e ≤ count
  pub low : place ≤ 2 * e
  pub left : first_least 0 (table_of rows count) ≡ first_least place (operators_of rows e (count - e))

pub seek_start : (rows : List ℕ) (count : ℕ) → Seeking rows count 0 0
seek_start rows count = record {
  passed = omega arith;
  low = omega arith;
  left = ap (λ (n : ℕ). first_least 0 (operators_of rows 0 n)) {x = count} {y = count - 0} (omega arith);
}

module _ {rows : List ℕ} {count place e : ℕ} (s : Seeking rows count place e) where
  module _ (h : e < count) {o : Operator} (here : operator_at rows e ≡ o) where
    -- the operator at hand, and those behind it
    apart : first_least 0 (table_of rows count)
        ≡ cond (is_least o) (Some place) (first_least (place + width o) (operators_of rows (e + 1) (count - (e + 1))))
    apart =
        s.left
        ∙ ap (λ (n : ℕ). first_least place (operators_of rows e n)) {x = count - e} {y = suc (count - (e + 1))} (omega arith)
        ∙ ap (λ (x : Operator). cond (is_least x) (Some place)
        (first_least (place + width x) (operators_of rows (suc e) (count - (e + 1))))) here
        ∙ ap (λ (i : ℕ). cond (is_least o) (Some place) (first_least (place + width o) (operators_of rows i (count - (e + 1)))))
        {x = suc e} {y = e + 1} (omega arith)

    pub seek_found : {b : Bool} → b ≡ is_least o → b ≡ true → Some place ≡ first_least 0 (table_of rows count)
    seek_found d q =
        sym (apart
        ∙ ap (λ (b : Bool). cond b (Some place) (first_least (place + width o) (operators_of rows (e + 1) (count - (e + 1))))) (sym d ∙ q))

    pub seek_next : {b : Bool} {n : ℕ} → b ≡ is_least o → b ≡ false → n ≡ width o → n ≤ 2 → Seeking rows count (place + n) (e + 1)
    seek_next {n = n} d q w k = record {
      passed = omega arith;
      low = omega (arith, s.low);
      left = apart
          ∙ ap (λ (b : Bool). cond b (Some place) (first_least (place + width o) (operators_of rows (e + 1) (count - (e + 1))))) (sym d ∙ q)
          ∙ ap (λ (i : ℕ). first_least (place + i) (operators_of rows (e + 1) (count - (e + 1)))) (sym w);
    }

  pub seek_end : count ≤ e → None ≡ first_least 0 (table_of rows count)
  seek_end h =
      sym (s.left ∙ ap (λ (n : ℕ). first_least place (operators_of rows e n)) {x = count - e} {y = 0} (omega arith))
