-- A lasso meets the conjunction exactly if it meets each of the formulas. Assumes nothing.
use mathlib.Core.Path.{◌≡◌, refl, sym, ◌∙◌}
use mathlib.Core.Logic.{◌↔◌}
use mathlib.Core.Bool.{Bool, true, false, ◌&&◌, and-false}
use mathlib.Core.List.{List, [], ◌∷◌}
use lib.Dec.{ltb}
use lib.ListN.{length, get_or}
use Rattle.base.proofs.BoolLaws.{to_T}
use Rattle.formula.specs.Formula.{Formula}
use Rattle.lasso.specs.Lasso.{Lasso, Positions, combine, holds, meets}
use Rattle.conjunction.specs.Conjunction.{conjunction, MeetsEach}

-- the first position is in the intersection exactly if it is in both sets
first-both : (t : Bool) (s u : Positions) → t && get_or (combine false s u) 0 false ≡ (t && get_or s 0 false) && (t && get_or u 0 false)
first-both false s u = refl
first-both true [] u = refl
first-both true (a ∷ s) [] = sym (and-false a)
first-both true (a ∷ s) (b ∷ u) = refl

meets-both : (c : Lasso) (f g : Formula) → meets c (Formula.pair false f g) ≡ meets c f && meets c g
unfolding meets
meets-both c f g = first-both (ltb c.stem (length c.letters)) (holds c f []) (holds c g [])

both_true : (a b : Bool) → a && b ≡ true → (a ≡ true) × (b ≡ true)
both_true true b e = (refl, e)
both_true false b e = absurd (to_T false e)

-- one formula more
more_exactly : (c : Lasso) (f g : Formula) (fs : List Formula) → (meets c g ≡ true) ↔ MeetsEach c fs
    → (meets c (Formula.pair false f g) ≡ true) ↔ MeetsEach c (f ∷ fs)
more_exactly c f g fs r = (each, whole)
  where
    each : meets c (Formula.pair false f g) ≡ true → MeetsEach c (f ∷ fs)
    each m =
        let t = both_true (meets c f) (meets c g) (sym (meets-both c f g) ∙ m) in
        MeetsEach.more t.0 (r.0 t.1)

    whole : MeetsEach c (f ∷ fs) → meets c (Formula.pair false f g) ≡ true
    whole (MeetsEach.more m rest) =
        let n = r.1 rest in
        meets-both c f g ∙ (λ i. m i && n i)

pub conjunction_exactly : (c : Lasso) (f : Formula) (fs : List Formula)
    → (meets c (conjunction (f ∷ fs)) ≡ true) ↔ MeetsEach c (f ∷ fs)
conjunction_exactly c f [] = (λ m. MeetsEach.more m MeetsEach.none, one)
  where
    one : MeetsEach c (f ∷ []) → meets c f ≡ true
    one (MeetsEach.more m rest) = m
conjunction_exactly c f (g ∷ fs) = more_exactly c f (conjunction (g ∷ fs)) (g ∷ fs) (conjunction_exactly c g fs)
