-- What it says that a word is in the alphabet (MEANING 2.1): it has one of the two scale flags (`some_scale`) and not both (`one_scale`),
-- and a word with one of them and without the other is in it (`alphabet_in`). Assumes nothing.
use Rattle.std.proofs.Common.{◌⊎◌, inl, inr, Bool, true, false, not, ℕ, T}
use Rattle.base.specs.Lists.{same_bit}
use Rattle.base.specs.Bits.{bit}
use Rattle.letters.specs.Alphabet.{previous_scale, current_scale, in_alphabet}

-- of two Bools that differ one is true and not both are
differ_some : (a b : Bool) → T (not (same_bit a b)) → T a ⊎ T b
differ_some true b h = inl tt
differ_some false true h = inr tt
differ_some false false h = absurd h

differ_one : (a b : Bool) → T (not (same_bit a b)) → T a → T b → ⊥
differ_one true true h k l = h
differ_one false b h k l = elim k [ ]
differ_one true false h k l = elim l [ ]

differ_in : (a b : Bool) → T a ⊎ T b → (T a → T b → ⊥) → T (not (same_bit a b))
differ_in true true s n = n tt tt
differ_in true false s n = tt
differ_in false true s n = tt
differ_in false false (inl h) n = h
differ_in false false (inr h) n = h

module _ (a : ℕ) where
  pub some_scale : T (in_alphabet a) → T (bit a previous_scale) ⊎ T (bit a current_scale)
  unfolding in_alphabet
  some_scale h = differ_some (bit a previous_scale) (bit a current_scale) h

  pub one_scale : T (in_alphabet a) → T (bit a previous_scale) → T (bit a current_scale) → ⊥
  unfolding in_alphabet
  one_scale h = differ_one (bit a previous_scale) (bit a current_scale) h

  pub alphabet_in : T (bit a previous_scale) ⊎ T (bit a current_scale) → (T (bit a previous_scale) → T (bit a current_scale) → ⊥)
      → T (in_alphabet a)
  unfolding in_alphabet
  alphabet_in s n = differ_in (bit a previous_scale) (bit a current_scale) s n
