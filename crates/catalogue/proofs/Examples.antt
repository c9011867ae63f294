-- The examples of MEANING 9.5, as statements that the definitions compute: where the formula of a number is, and what is handed back.
-- Assumes nothing.
use mathlib.Core.Path.{◌≡◌, refl}
use mathlib.Core.List.{List, [], ◌∷◌, map}
use Prim.Native.Nat.{ℕ}
use Rattle.catalogue.specs.Records.{records_from}
use Rattle.catalogue.specs.Location.{Location, found, location}
use Rattle.catalogue.specs.Contract.{View, handed}
use Rattle.catalogue.specs.declared.Layer.TheVariants.{Overlay, Base}
use Rattle.catalogue.specs.declared.Refusal.TheVariants.{Damaged, Missing}
use Rattle.std.specs.Prelude.{Err}

pub record Example : Type 0 where
  pub overlay : List ℕ
  pub base : List ℕ
  pub number : ℕ
  pub outcome : Location

abbrev is : (overlay base : List ℕ) (number : ℕ) → Location → Example
is o b n l = record { overlay = o; base = b; number = n; outcome = l }

-- a base catalogue with 02 under the number 1 and 08 03 00 under 2, and an overlay with 01 under 2
abbrev factory : List ℕ
factory = 0x20 ∷ 1 ∷ 0 ∷ 1 ∷ 0x02 ∷ 0x20 ∷ 2 ∷ 0 ∷ 3 ∷ 0x08 ∷ 0x03 ∷ 0x00 ∷ []

abbrev dealer : List ℕ
dealer = 0x20 ∷ 2 ∷ 0 ∷ 1 ∷ 0x01 ∷ []

abbrev pub examples : List Example
examples =
    is dealer factory 1 (found Base 4 1)
    ∷ is dealer factory 2 (found Overlay 4 1)
    ∷ is dealer factory 3 (Err Missing)
    ∷ is [] factory 2 (found Base 9 3)
    ∷ is factory dealer 2 (found Overlay 9 3)
    ∷ is [] [] 0 (Err Missing)
    ∷ is (0x20 ∷ 2 ∷ 0 ∷ 0 ∷ []) factory 2 (found Overlay 4 0)
    ∷ is (0x20 ∷ 0 ∷ 0 ∷ 0 ∷ []) factory 0 (found Overlay 4 0)
    ∷ is [] (0x20 ∷ 255 ∷ 255 ∷ 1 ∷ 0x01 ∷ []) 65535 (found Base 4 1)
    ∷ is (0x21 ∷ []) factory 2 (Err (Damaged Overlay 0))
    ∷ is (0x20 ∷ 2 ∷ 0 ∷ 1 ∷ 0x01 ∷ 0x00 ∷ []) factory 2 (Err (Damaged Overlay 5))
    ∷ is (0x20 ∷ 2 ∷ 0 ∷ 1 ∷ []) factory 1 (Err (Damaged Overlay 4))
    ∷ is (0x20 ∷ []) factory 1 (Err (Damaged Overlay 1))
    ∷ is (0x20 ∷ 2 ∷ 0 ∷ 0 ∷ 0x20 ∷ 2 ∷ 0 ∷ 0 ∷ []) factory 2 (Err (Damaged Overlay 5))
    ∷ is (0x20 ∷ 2 ∷ 0 ∷ 0 ∷ 0x20 ∷ 1 ∷ 0 ∷ []) factory 2 (Err (Damaged Overlay 5))
    ∷ is (0x20 ∷ 2 ∷ 0 ∷ 0 ∷ 0x20 ∷ 1 ∷ []) factory 2 (Err (Damaged Overlay 6))
    ∷ is (0x20 ∷ 255 ∷ 0 ∷ 0 ∷ 0x20 ∷ 0 ∷ 1 ∷ 0 ∷ []) factory 256 (found Overlay 8 0)
    ∷ is dealer (0x20 ∷ 1 ∷ []) 2 (Err (Damaged Base 2))
    ∷ is (0x21 ∷ []) (0x21 ∷ []) 2 (Err (Damaged Overlay 0))
    ∷ []

pub examples_located :
    map (λ (e : Example). location e.overlay e.base e.number) examples ≡ map (λ (e : Example). e.outcome) examples
unfolding records_from
examples_located = refl

-- The two in memory, the overlay in block 7 from 100 on, the base catalogue in block 8 from 0 on.
abbrev dealer_there : View
dealer_there = record { block = 7; offset = 100; bytes = dealer }

abbrev factory_there : View
factory_there = record { block = 8; offset = 0; bytes = factory }

abbrev hand : ℕ → View
hand n = handed (location dealer factory n) dealer_there factory_there

abbrev there : (block offset : ℕ) → List ℕ → View
there b o l = record { block = b; offset = o; bytes = l }

pub examples_handed : map hand (2 ∷ 1 ∷ 3 ∷ []) ≡ there 7 104 (0x01 ∷ []) ∷ there 8 4 (0x02 ∷ []) ∷ there 7 100 [] ∷ []
unfolding records_from
examples_handed = refl
