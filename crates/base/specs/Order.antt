-- Which of two sequences of numbers comes first. proofs/OrderLaws.antt says that this is an order. Assumes nothing.
use Rattle.std.specs.Prelude.{◌≡◌, ◌⊎◌, List, [], ◌∷◌, ℕ, ◌<◌}

-- They are compared one number after another: where they differ for the first time, the one that comes before has the smaller.
abbrev pub Before : List ℕ → List ℕ → Type 0
Before [] ys = ⊥
Before (x ∷ xs) [] = ⊥
Before (x ∷ xs) (y ∷ ys) = (x < y) ⊎ ((x ≡ y) × Before xs ys)

-- the same, or before
abbrev pub NoLater : List ℕ → List ℕ → Type 0
NoLater xs ys = (xs ≡ ys) ⊎ Before xs ys
