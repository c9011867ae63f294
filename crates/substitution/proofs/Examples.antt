-- The examples of MEANING 11.6, as statements that the definitions compute: of the tables only the lengths are told. Assumes nothing.
use mathlib.Core.Path.{◌≡◌, refl}
use mathlib.Core.List.{List, [], ◌∷◌, ◌++◌, map}
use Prim.Native.Nat.{ℕ, ◌-◌, ◌*◌}
use lib.ListN.{replicate}
use Rattle.base.specs.Lists.{range, flat_map}
use Rattle.formula.specs.Table.{table}
use Rattle.formula.specs.Refusal.{at_byte, unguarded}
use Rattle.formula.specs.Reading.{parse, reading}
use Rattle.formula.specs.declared.Refusal.{Refusal}
use Rattle.formula.specs.declared.Fault.TheVariants.{MissingOperator, TooManyOperators, TooManyOfKind, MissingOperand, UnboundVariable}
use Rattle.substitution.specs.Substitution.{Substitution, substitution}

-- an outcome with the lengths in place of the table
pub data Told : Type 0 where
  of_old : Refusal → Told
  of_new : Refusal → Told
  missing : Told
  of_spliced : Refusal → Told
  edited : List ℕ → (lengths : List ℕ) → Told

abbrev told : Substitution → Told
told (Substitution.old_unread why) = Told.of_old why
told (Substitution.new_unread x why) = Told.of_new why
told (Substitution.missing x) = Told.missing
told (Substitution.spliced_unread x why) = Told.of_spliced why
told (Substitution.substituted x bytes) = Told.edited bytes x.lengths

pub record Example : Type 0 where
  pub old : List ℕ
  pub number : ℕ
  pub new : List ℕ
  pub outcome : Told

abbrev is : List ℕ → ℕ → List ℕ → Told → Example
is o e n t = record { old = o; number = e; new = n; outcome = t }

-- F s0: 09, 06, 03 00, 08 and 05 00 are its subformulas
abbrev sooner_or_later : List ℕ
sooner_or_later = 0x09 ∷ 0x06 ∷ 0x03 ∷ 0x00 ∷ 0x08 ∷ 0x05 ∷ 0x00 ∷ []

-- so many nexts before true
abbrev nexts : ℕ → List ℕ
nexts n = replicate n 0x08 ++ (0x01 ∷ [])

-- 23 ands with true on the left, and behind them what is given: 46 operators and those of that
abbrev ands : List ℕ → List ℕ
ands l = flat_map (λ _. 0x07 ∷ 0x01 ∷ []) (range 0 23) ++ l

abbrev pub examples : List Example
examples =
    is sooner_or_later 2 (0x04 ∷ 0x01 ∷ [])
    (Told.edited (0x09 ∷ 0x06 ∷ 0x04 ∷ 0x01 ∷ 0x08 ∷ 0x05 ∷ 0x00 ∷ []) (5 ∷ 4 ∷ 1 ∷ 2 ∷ 1 ∷ []))
    ∷ is sooner_or_later 2 (0x08 ∷ 0x01 ∷ [])
    (Told.edited (0x09 ∷ 0x06 ∷ 0x08 ∷ 0x01 ∷ 0x08 ∷ 0x05 ∷ 0x00 ∷ []) (6 ∷ 5 ∷ 2 ∷ 1 ∷ 2 ∷ 1 ∷ []))
    ∷ is sooner_or_later 4 (0x01 ∷ [])
    (Told.edited (0x09 ∷ 0x06 ∷ 0x03 ∷ 0x00 ∷ 0x08 ∷ 0x01 ∷ []) (5 ∷ 4 ∷ 1 ∷ 2 ∷ 1 ∷ []))
    ∷ is sooner_or_later 0 (0x01 ∷ [])
    (Told.edited (0x01 ∷ []) (1 ∷ []))
    ∷ is sooner_or_later 2 (0x03 ∷ 0x00 ∷ [])
    (Told.edited sooner_or_later (5 ∷ 4 ∷ 1 ∷ 2 ∷ 1 ∷ []))
    ∷ is sooner_or_later 3 (0x08 ∷ 0x05 ∷ 0x00 ∷ [])
    (Told.of_new (at_byte UnboundVariable 2))
    ∷ is sooner_or_later 5 (0x01 ∷ [])
    Told.missing
    ∷ is sooner_or_later 5 (0x03 ∷ [])
    (Told.of_new (at_byte MissingOperand 1))
    ∷ is (0x09 ∷ 0x05 ∷ 0x00 ∷ []) 5 (0x03 ∷ [])
    (Told.of_old (unguarded 0 2))
    ∷ is [] 0 (0x01 ∷ [])
    (Told.of_old (at_byte MissingOperator 0))
    ∷ is (nexts 6) 6 (nexts 6)
    (Told.edited (nexts 12) (13 ∷ 12 ∷ 11 ∷ 10 ∷ 9 ∷ 8 ∷ 7 ∷ 6 ∷ 5 ∷ 4 ∷ 3 ∷ 2 ∷ 1 ∷ []))
    ∷ is (nexts 6) 6 (nexts 7)
    (Told.of_spliced (at_byte TooManyOfKind 12))
    ∷ is (ands (0x01 ∷ [])) 46 (0x08 ∷ 0x01 ∷ [])
    (Told.edited (ands (0x08 ∷ 0x01 ∷ [])) (flat_map (λ k. (48 - 2 * k) ∷ 1 ∷ []) (range 0 23) ++ (2 ∷ 1 ∷ [])))
    ∷ is (ands (0x01 ∷ [])) 46 (0x08 ∷ 0x08 ∷ 0x01 ∷ [])
    (Told.of_spliced (at_byte TooManyOperators 48))
    ∷ []

pub examples_substituted : map (λ (x : Example). told (substitution x.old x.number x.new)) examples
    ≡ map (λ (x : Example). x.outcome) examples
unfolding substitution reading parse table
examples_substituted = refl
