-- Mistakes of MEANING 8 in judging a cycle, by the truth of formulas on lassos, computed from the definitions through the reading of the
-- bytes. (Those that profiles show are in profile's Examples; that a next outside the fixpoint is no guard is among the reading's; that an
-- or has one pick within a transition is part of what a transition is.) Assumes nothing.
use mathlib.Core.Path.{◌≡◌, refl}
use mathlib.Core.Bool.{true, false}
use mathlib.Core.List.{List, [], ◌∷◌, map}
use Prim.Native.Nat.{ℕ}
use Rattle.formula.specs.Formula.{Formula}
use Rattle.formula.specs.Reading.{parse}
use Rattle.lasso.specs.Lasso.{Lasso, meets}
use Rattle.profile.proofs.Examples.{formula_of}

-- the cases F, J and L of MEANING 5.9
abbrev pub F : Formula
unfolding parse
F = formula_of (parse (0x0A ∷ 0x07 ∷ 0x09 ∷ 0x06 ∷ 0x03 ∷ 0x00 ∷ 0x08 ∷ 0x05 ∷ 0x00 ∷ 0x08 ∷ 0x05 ∷ 0x00 ∷ []))

abbrev pub J : Formula
unfolding parse
J = formula_of (parse (0x0A ∷ 0x09 ∷ 0x06 ∷ 0x07 ∷ 0x03 ∷ 0x00 ∷ 0x08 ∷ 0x05 ∷ 0x01 ∷ 0x08 ∷ 0x05 ∷ 0x00 ∷ []))

abbrev pub L : Formula
unfolding parse
L = formula_of (parse (0x09 ∷ 0x0A ∷ 0x06 ∷ 0x07 ∷ 0x03 ∷ 0x00 ∷ 0x08 ∷ 0x05 ∷ 0x01 ∷ 0x08 ∷ 0x05 ∷ 0x00 ∷ []))

-- a cycle of these letters, without stem
abbrev pub cycle : List ℕ → Lasso
cycle letters = record { letters = letters; stem = 0 }

-- A least fixpoint that still waits: F is true although its signal is absent at every other position.
pub pending : meets (cycle (0x4000 ∷ 0x4001 ∷ [])) F ≡ true
unfolding parse meets
pending = refl

-- A least fixpoint on the way. Where signal 0 is present for ever J may pass its inner least fixpoint for ever, since the outer greatest
-- one is passed too; where it is absent J is false, as only the inner one is left to it, and L true.
pub outer_decides :
    map (λ (f : Formula). map (λ (letters : List ℕ). meets (cycle letters) f) ((0x4001 ∷ []) ∷ (0x4000 ∷ []) ∷ [])) (J ∷ L ∷ [])
    ≡ (true ∷ false ∷ []) ∷ (true ∷ true ∷ []) ∷ []
unfolding parse meets
outer_decides = refl
