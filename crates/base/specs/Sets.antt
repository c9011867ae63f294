-- Sets as lists of bits, one inside another. proofs/Inside.antt has the laws. Assumes nothing.
use Rattle.std.specs.Prelude.{Bool, true, false, List, [], ◌∷◌}

-- one bit is true only where the other is
pub data Below : Bool → Bool → Type 0 where
  same : {b : Bool} → Below b b
  more : Below false true

-- a set inside another of as many elements
pub data Inside : List Bool → List Bool → Type 0 where
  none : Inside [] []
  put : {a b : Bool} {s t : List Bool} → Below a b → Inside s t → Inside (a ∷ s) (b ∷ t)

-- from s to t elements only leave the value g: the set grows where g is false, and shrinks where it is true
abbrev pub Toward : (g : Bool) → List Bool → List Bool → Type 0
Toward false s t = Inside s t
Toward true s t = Inside t s
