-- The examples of MEANING 1.7 as one table that the definition computes, and the numbers of their refusals. Assumes nothing.
use Rattle.std.proofs.Common.{◌≡◌, refl, true, List, [], ◌∷◌, ◌++◌, map, ℕ, zero, suc, replicate}
use Rattle.formula.specs.Formula.{Leaf, Formula}
use Rattle.formula.specs.Refusal.{at_byte, unguarded, code_of}
use Rattle.formula.specs.declared.Fault.{Fault}
use Rattle.formula.specs.declared.Fault.TheVariants.{MissingOperator, UnknownOpcode, TooManyOperators, TooManyOfKind}
use Rattle.formula.specs.declared.Fault.TheVariants.{MissingOperand, UnknownSignal, UnboundVariable, BytesLeft}
use Rattle.formula.specs.Reading.{Reading, parse}

pub record Example : Type 0 where
  pub bytes : List ℕ
  pub outcome : Reading Formula

abbrev nexts : ℕ → Formula
nexts zero = Formula.leaf (Leaf.constant true)
nexts (suc n) = Formula.next (nexts n)

abbrev refused : Fault → (place : ℕ) → Reading Formula
refused fault place = Reading.refused (at_byte fault place)

abbrev is : List ℕ → Reading Formula → Example
is b o = record { bytes = b; outcome = o }

abbrev pub table : List Example
table =
    is [] (refused MissingOperator 0)
    ∷ is (0x0B ∷ []) (refused UnknownOpcode 0)
    ∷ is (0x03 ∷ []) (refused MissingOperand 1)
    ∷ is (0x03 ∷ 0x10 ∷ []) (refused UnknownSignal 1)
    ∷ is (0x03 ∷ 0x0F ∷ []) (Reading.accepted (Formula.leaf (Leaf.signal true 15)))
    ∷ is (0x06 ∷ 0x01 ∷ []) (refused MissingOperator 2)
    ∷ is (0x05 ∷ 0x00 ∷ []) (refused UnboundVariable 1)
    ∷ is (0x09 ∷ 0x05 ∷ 0x00 ∷ []) (Reading.refused (unguarded 0 2))
    ∷ is (0x01 ∷ 0x01 ∷ []) (refused BytesLeft 1)
    ∷ is (replicate 49 0x07) (refused TooManyOperators 48)
    ∷ is (replicate 13 0x08) (refused TooManyOfKind 12)
    ∷ is (replicate 12 0x08 ++ (0x01 ∷ [])) (Reading.accepted (nexts 12))
    ∷ is (0x08 ∷ 0x09 ∷ 0x05 ∷ 0x00 ∷ []) (Reading.refused (unguarded 1 3))
    ∷ is (0x0A ∷ 0x09 ∷ 0x06 ∷ 0x03 ∷ 0x00 ∷ 0x05 ∷ 0x01 ∷ []) (Reading.refused (unguarded 0 6))
    ∷ []

pub examples : map (λ (x : Example). parse x.bytes) table ≡ map (λ (x : Example). x.outcome) table
unfolding parse
examples = refl

-- the number of a refusal, and 0 where there is none
abbrev number : Reading Formula → ℕ
number (Reading.accepted f) = 0
number (Reading.refused why) = code_of why

-- Theorem: the same refusals by their numbers. Each of 1 to 9 is here, so that none can stand for another.
pub examples_numbered : map (λ (x : Example). number (parse x.bytes)) table
    ≡ 1 ∷ 2 ∷ 5 ∷ 6 ∷ 0 ∷ 1 ∷ 7 ∷ 8 ∷ 9 ∷ 3 ∷ 4 ∷ 0 ∷ 8 ∷ 8 ∷ []
unfolding parse
examples_numbered = refl
