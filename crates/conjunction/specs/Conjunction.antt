-- The conjunction of several formulas, the first and (the second and (the third ..)): MEANING 10.1. Assumes nothing.
use Rattle.std.specs.Prelude.{◌≡◌, true, false, List, [], ◌∷◌, ◌++◌, ℕ}
use Rattle.formula.specs.Formula.{Leaf, Formula}
use Rattle.formula.specs.Reading.{Opcode, byte_of, Reading, parse}
use Rattle.lasso.specs.Lasso.{Lasso, meets}

-- the bytes of the conjunction, by those of the formulas; of none there are none
abbrev pub conjoined : List (List ℕ) → List ℕ
conjoined [] = []
conjoined (b ∷ []) = b
conjoined (b ∷ (c ∷ bs)) = byte_of (Opcode.pair false) ∷ (b ++ conjoined (c ∷ bs))

-- the formula that it is; of no formulas, true
abbrev pub conjunction : List Formula → Formula
conjunction [] = Formula.leaf (Leaf.constant true)
conjunction (f ∷ []) = f
conjunction (f ∷ (g ∷ fs)) = Formula.pair false f (conjunction (g ∷ fs))

-- Reading accepts each of several byte strings: these formulas.
pub data Accepted : List (List ℕ) → List Formula → Type 0 where
  none : Accepted [] []
  more : {b : List ℕ} {f : Formula} {bs : List (List ℕ)} {fs : List Formula} → parse b ≡ Reading.accepted f → Accepted bs fs
      → Accepted (b ∷ bs) (f ∷ fs)

-- One lasso meets each of several formulas.
pub data MeetsEach (c : Lasso) : List Formula → Type 0 where
  none : MeetsEach c []
  more : {f : Formula} {fs : List Formula} → meets c f ≡ true → MeetsEach c fs → MeetsEach c (f ∷ fs)

-- Some of several things, in the same order.
pub data Part {A : Type 0} : List A → List A → Type 0 where
  none : Part [] []
  skip : {x : A} {xs ys : List A} → Part xs ys → Part xs (x ∷ ys)
  keep : {x : A} {xs ys : List A} → Part xs ys → Part (x ∷ xs) (x ∷ ys)
