-- Moving the places of a refusal: to where they are, and from no bytes earlier, is leaving them. Assumes nothing.
use Rattle.std.proofs.Common.{◌≡◌, refl, zero-add}
use Rattle.formula.specs.Refusal.{moved_to, places_from}
use Rattle.formula.specs.declared.Refusal.{Refusal}
use Rattle.formula.specs.declared.Refusal.TheVariants.{AtByte, Unguarded}

pub moved_nowhere : (why : Refusal) → moved_to (λ i. i) why ≡ why
moved_nowhere (AtByte fault at) = refl
moved_nowhere (Unguarded at binder) = refl

pub places_from_zero : (why : Refusal) → places_from 0 why ≡ why
places_from_zero (AtByte fault at) = rw (zero-add at) refl
places_from_zero (Unguarded at binder) = rw (zero-add at, zero-add binder) refl
