-- The examples of MEANING 10.6, as statements that the definitions compute. Assumes nothing.
use mathlib.Core.Path.{◌≡◌, refl}
use mathlib.Core.Bool.{true, false}
use mathlib.Core.List.{List, [], ◌∷◌, ◌++◌, map}
use Prim.Native.Nat.{ℕ, ◌+◌}
use lib.ListN.{replicate}
use Rattle.formula.specs.Refusal.{at_byte, unguarded}
use Rattle.formula.specs.Table.{table}
use Rattle.formula.specs.Reading.{parse}
use Rattle.catalogue.specs.Catalogue.{Entry, written}
use Rattle.catalogue.specs.Records.{records_from}
use Rattle.decision.specs.Verdict.{Verdict, decide, workspace_size, witness_size}
use Rattle.formula.specs.declared.Fault.TheVariants.{MissingOperator, TooManyOfKind, MissingOperand}
use Rattle.construction.specs.declared.Question.TheVariants.{Capacity, Nodes, Profiles}
use Rattle.joint.specs.Joint.{Joint, joint}

pub record Example : Type 0 where
  pub sheet : List ℕ
  pub nodes : ℕ
  pub profiles : ℕ
  pub outcome : Joint

abbrev is : (sheet : List ℕ) (N M : ℕ) → Joint → Example
is s n m o = record { sheet = s; nodes = n; profiles = m; outcome = o }

-- a catalogue whose numbers are not its positions: 7, 263, 519 ..
abbrev entries : (high : ℕ) → List (List ℕ) → List Entry
entries h [] = []
entries h (b ∷ bs) = record { low = 7; high = h; formula = b } ∷ entries (h + 1) bs

abbrev sheet : List (List ℕ) → List ℕ
sheet bs = written (entries 0 bs)

-- F s0
abbrev sooner_or_later : List ℕ
sooner_or_later = 0x09 ∷ 0x06 ∷ 0x03 ∷ 0x00 ∷ 0x08 ∷ 0x05 ∷ 0x00 ∷ []

abbrev pub examples : List Example
examples =
    is (sheet ((0x03 ∷ 0x00 ∷ []) ∷ (0x03 ∷ 0x01 ∷ []) ∷ [])) 8 8
    (Joint.satisfiable 1 1 2 1 (0x4003 ∷ 0x4000 ∷ []))
    ∷ is (sheet ((0x03 ∷ 0x00 ∷ []) ∷ (0x01 ∷ []) ∷ (0x04 ∷ 0x00 ∷ []) ∷ [])) 8 8
    (Joint.unsatisfiable 1 0 (true ∷ false ∷ true ∷ false ∷ false ∷ false ∷ false ∷ false ∷ []))
    ∷ is (sheet ((0x03 ∷ 0x00 ∷ []) ∷ (0x03 ∷ 0x00 ∷ []) ∷ (0x04 ∷ 0x00 ∷ []) ∷ [])) 8 8
    (Joint.unsatisfiable 1 0 (true ∷ false ∷ true ∷ false ∷ false ∷ false ∷ false ∷ false ∷ []))
    ∷ is (sheet ((0x03 ∷ 0x00 ∷ []) ∷ (0x04 ∷ 0x00 ∷ []) ∷ (0x03 ∷ 0x00 ∷ []) ∷ [])) 8 8
    (Joint.unsatisfiable 1 0 (true ∷ true ∷ false ∷ false ∷ false ∷ false ∷ false ∷ false ∷ []))
    ∷ is (sheet ((0x02 ∷ []) ∷ [])) 8 8
    (Joint.unsatisfiable 1 0 (true ∷ false ∷ false ∷ false ∷ false ∷ false ∷ false ∷ false ∷ []))
    ∷ is (sheet ((0x01 ∷ []) ∷ (0x02 ∷ []) ∷ [])) 8 8
    (Joint.unsatisfiable 1 0 (false ∷ true ∷ false ∷ false ∷ false ∷ false ∷ false ∷ false ∷ []))
    ∷ is (sheet (sooner_or_later ∷ (0x0A ∷ 0x07 ∷ 0x04 ∷ 0x00 ∷ 0x08 ∷ 0x05 ∷ 0x00 ∷ []) ∷ [])) 8 8
    (Joint.unsatisfiable 2 1 (true ∷ true ∷ false ∷ false ∷ false ∷ false ∷ false ∷ false ∷ []))
    ∷ is (sheet (replicate 8 (0x01 ∷ []))) 8 8
    (Joint.satisfiable 1 1 2 1 (0x4000 ∷ 0x4000 ∷ []))
    ∷ is (sheet ([])) 8 8
    Joint.miscounted
    ∷ is (sheet (replicate 9 (0x01 ∷ []))) 8 8
    Joint.miscounted
    ∷ is (sheet ((0x01 ∷ []) ∷ [] ∷ (0x05 ∷ []) ∷ [])) 8 8
    (Joint.unread 1 (at_byte MissingOperator 0))
    ∷ is (sheet ((0x02 ∷ []) ∷ (0x03 ∷ []) ∷ [])) 0 8
    (Joint.unread 1 (at_byte MissingOperand 1))
    ∷ is (sheet ((0x01 ∷ []) ∷ (0x09 ∷ 0x05 ∷ 0x00 ∷ []) ∷ (0x02 ∷ []) ∷ [])) 8 8
    (Joint.unread 1 (unguarded 0 2))
    ∷ is (sheet ((0x02 ∷ []) ∷ [])) 0 8
    (Joint.refused Capacity)
    ∷ is (sheet ((replicate 12 0x08 ++ (0x01 ∷ [])) ∷ (0x08 ∷ 0x03 ∷ 0x00 ∷ []) ∷ [])) 8 8
    (Joint.untried (true ∷ true ∷ false ∷ false ∷ false ∷ false ∷ false ∷ false ∷ []) (Verdict.unread (at_byte TooManyOfKind 14)))
    ∷ is (sheet ((0x03 ∷ 0x00 ∷ []) ∷ [])) 1 4
    (Joint.untried (true ∷ false ∷ false ∷ false ∷ false ∷ false ∷ false ∷ false ∷ []) (Verdict.refused Nodes))
    ∷ is (sheet ((0x03 ∷ 0x00 ∷ []) ∷ (0x08 ∷ 0x03 ∷ 0x00 ∷ []) ∷ (0x04 ∷ 0x00 ∷ []) ∷ [])) 1 4
    (Joint.untried (true ∷ true ∷ false ∷ false ∷ false ∷ false ∷ false ∷ false ∷ []) (Verdict.refused Nodes))
    ∷ is (sheet (sooner_or_later ∷ (0x0A ∷ 0x07 ∷ 0x03 ∷ 0x01 ∷ 0x08 ∷ 0x05 ∷ 0x00 ∷ []) ∷ (0x04 ∷ 0x00 ∷ []) ∷ (0x03 ∷ 0x00 ∷ []) ∷ []))
    8 1
    (Joint.untried (true ∷ true ∷ true ∷ false ∷ false ∷ false ∷ false ∷ false ∷ []) (Verdict.refused Profiles))
    ∷ is (0x20 ∷ 0x07 ∷ 0x00 ∷ 0x01 ∷ 0x01 ∷ 0x21 ∷ []) 8 8 (Joint.damaged 5)
    ∷ []

abbrev decided_jointly : Example → Joint
decided_jointly e =
    joint e.nodes e.profiles (workspace_size e.nodes e.profiles) (witness_size e.nodes e.profiles) e.sheet

pub examples_decided : map decided_jointly examples ≡ map (λ (e : Example). e.outcome) examples
unfolding joint records_from parse table decide
examples_decided = refl
