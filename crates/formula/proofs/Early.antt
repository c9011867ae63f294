-- A refusal of reading has early places. By Prefix 97 bytes decide the outcome, and a refusal's place is at most the length (Fuel), so it
-- is at most 97, however long the input is; and the byte of a binder comes before (NamedBinder). Assumes nothing.
use Rattle.std.proofs.Common.{◌≡◌, ◌∙◌, List, ℕ, ◌≤◌, arith, take, length-take}
use Rattle.formula.specs.Refusal.{place_of, PlacesWithin}
use Rattle.formula.specs.declared.Refusal.{Refusal}
use Rattle.formula.specs.declared.Refusal.TheVariants.{AtByte, Unguarded}
use Rattle.formula.specs.Reading.{Reading, parse}
use Rattle.formula.proofs.Fuel.{parse_stopped}
use Rattle.formula.proofs.Prefix.{parse_prefix}
use Rattle.formula.proofs.NamedBinder.{parse-named, named-before}

place-early : (bytes : List ℕ) {why : Refusal} → parse bytes ≡ Reading.refused why → place_of why ≤ 97
place-early bytes e =
    let s = parse_stopped (take 97 bytes) (parse_prefix bytes ∙ e) in
    omega (arith, s.inside, length-take 97 bytes)

pub parse-early : (bytes : List ℕ) (why : Refusal) → parse bytes ≡ Reading.refused why → PlacesWithin 97 why
parse-early bytes (AtByte fault at) e = place-early bytes e
parse-early bytes (Unguarded at binder) e =
    (place-early bytes e, omega (arith, place-early bytes e, named-before (parse-named bytes e)))
