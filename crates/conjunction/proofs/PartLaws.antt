-- Parts of a list of formulas: a part of what reading accepts is accepted, and of what a lasso meets it meets. Assumes nothing.
use mathlib.Core.Path.{◌≡◌}
use mathlib.Core.List.{List, [], ◌∷◌}
use Prim.Native.Nat.{ℕ}
use Rattle.formula.specs.Formula.{Formula}
use Rattle.formula.specs.Reading.{Reading}
use Rattle.lasso.specs.Lasso.{Lasso}
use Rattle.conjunction.specs.Conjunction.{Accepted, MeetsEach, Part}

pub part-accepted : {cs bs : List (List ℕ)} {fs : List Formula} → Part cs bs → Accepted bs fs
    → (gs : List Formula) × Accepted cs gs × Part gs fs
part-accepted Part.none Accepted.none = ([], Accepted.none, Part.none)
part-accepted (Part.skip p) (Accepted.more e a) =
    let r = part-accepted p a in
    (r.0, r.1, Part.skip r.2)
part-accepted (Part.keep p) (Accepted.more {f = f} e a) =
    let r = part-accepted p a in
    (f ∷ r.0, Accepted.more e r.1, Part.keep r.2)

-- what is accepted is one formula
pub accepted-same : {f g : Formula} → Reading.accepted f ≡ Reading.accepted g → f ≡ g
accepted-same e = cc

pub part_meets : {c : Lasso} {gs fs : List Formula} → Part gs fs → MeetsEach c fs → MeetsEach c gs
part_meets Part.none MeetsEach.none = MeetsEach.none
part_meets (Part.skip p) (MeetsEach.more m r) = part_meets p r
part_meets (Part.keep p) (MeetsEach.more m r) = MeetsEach.more m (part_meets p r)
