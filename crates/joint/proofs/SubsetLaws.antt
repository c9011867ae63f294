-- Subsets of positions. All positions choose all (`everything-chosen`); one left out is a part (`Within`); what a subset chooses is a part
-- of what a larger one does (`within-part`). Assumes nothing.
use mathlib.Core.Path.{◌≡◌, refl, ap}
use mathlib.Core.Bool.{Bool, true, false}
use mathlib.Core.List.{List, [], ◌∷◌, ◌++◌}
use Prim.Native.Nat.{ℕ, zero, suc, ◌-◌, ◌≤◌}
use native.Mathlib.Omega.{arith}
use lib.ListN.{length, get_or, replicate, length-append, length-replicate}
use Rattle.conjunction.specs.Conjunction.{Part}
use Rattle.joint.specs.Joint.{Subset, chosen, max_formulas, everything, without}
use Rattle.joint.specs.Meaning.{Within}

-- ---- all of them
pub everything-length : (n : ℕ) → n ≤ max_formulas → length (everything n) ≡ max_formulas
everything-length n l =
    omega (
      arith,
      length-append (replicate n true) (replicate (max_formulas - n) false),
      length-replicate {A = Bool} n true,
      length-replicate {A = Bool} (max_formulas - n) false,
    )

pub everything-chosen : {A : Type 0} (xs : List A) → chosen (everything (length xs)) xs ≡ xs
everything-chosen {A} xs = by xs (replicate (max_formulas - length xs) false)
  where
    none_left : (s : Subset) → chosen {A = A} s [] ≡ []
    none_left [] = refl
    none_left (b ∷ s) = refl

    by : (ys : List A) (s : Subset) → chosen (replicate (length ys) true ++ s) ys ≡ ys
    by [] s = none_left s
    by (y ∷ ys) s = ap (λ (r : List A). y ∷ r) (by ys s)

-- ---- larger and smaller
pub within_self : (s : Subset) → Within s s
within_self [] = Within.none
within_self (b ∷ s) = Within.both (within_self s)

pub within_on : {s t u : Subset} → Within s t → Within t u → Within s u
within_on Within.none Within.none = Within.none
within_on (Within.both a) (Within.both b) = Within.both (within_on a b)
within_on (Within.both a) (Within.fewer b) = Within.fewer (within_on a b)
within_on (Within.fewer a) (Within.both b) = Within.fewer (within_on a b)

pub within-length : {s t : Subset} → Within s t → length s ≡ length t
within-length Within.none = refl
within-length (Within.both w) = ap suc (within-length w)
within-length (Within.fewer w) = ap suc (within-length w)

-- one left out
pub without-within : (s : Subset) (i : ℕ) → Within (without s i) s
without-within [] i = Within.none
without-within (true ∷ s) zero = Within.fewer (within_self s)
without-within (false ∷ s) zero = Within.both (within_self s)
without-within (b ∷ s) (suc i) = Within.both (without-within s i)

-- the same position left out of both
pub without-both : {s t : Subset} (i : ℕ) → Within s t → Within (without s i) (without t i)
without-both i Within.none = Within.none
without-both zero (Within.both w) = Within.both w
without-both zero (Within.fewer w) = Within.both w
without-both (suc i) (Within.both w) = Within.both (without-both i w)
without-both (suc i) (Within.fewer w) = Within.fewer (without-both i w)

pub within-at : {s t : Subset} (i : ℕ) → Within s t → get_or s i false ≡ true → get_or t i false ≡ true
within-at i Within.none e = e
within-at zero (Within.both w) e = e
within-at zero (Within.fewer w) e = refl
within-at (suc i) (Within.both w) e = within-at i w e
within-at (suc i) (Within.fewer w) e = within-at i w e

none-part : {A : Type 0} (xs : List A) → Part [] xs
none-part [] = Part.none
none-part (x ∷ xs) = Part.skip (none-part xs)

pub within-part : {A : Type 0} {s t : Subset} → Within s t → (xs : List A) → Part (chosen s xs) (chosen t xs)
within-part Within.none xs = Part.none
within-part (Within.both w) [] = Part.none
within-part (Within.both {b = true} w) (x ∷ xs) = Part.keep (within-part w xs)
within-part (Within.both {b = false} w) (x ∷ xs) = within-part w xs
within-part (Within.fewer w) [] = Part.none
within-part (Within.fewer w) (x ∷ xs) = Part.skip (within-part w xs)
