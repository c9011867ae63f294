-- A number in a range: the test says what it means (`between_of`, `between_in`). Assumes nothing.
use Rattle.std.proofs.Common.{ℕ, ◌≤◌, T, leb, leb→le, le→leb}
use Rattle.base.proofs.BoolLaws.{and_left, and_right, and_both}
use Rattle.construction.specs.Construction.{between}

module _ (low high n : ℕ) where
  pub between_of : T (between low high n) → (low ≤ n) × (n ≤ high)
  between_of h = (leb→le low n (and_left (leb low n) (leb n high) h), leb→le n high (and_right (leb low n) (leb n high) h))

  pub between_in : low ≤ n → n ≤ high → T (between low high n)
  between_in l h = and_both (leb low n) (leb n high) (le→leb low n l) (le→leb n high h)
