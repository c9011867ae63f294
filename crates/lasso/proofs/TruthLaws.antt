-- The questions that truth asks after reading (MEANING 2.5), by what they mean, in their order; and what 19 asks, letter by letter. Assumes
-- nothing.
use Rattle.std.proofs.Common.{◌≡◌, refl, ◌↔◌, ℕ, ◌≤◌, ◌<◌, T, length, get_or}
use Rattle.base.proofs.AskLaws.{Asked, asked as asked_of, asked_le, asked_lt}
use Rattle.base.proofs.MemberLaws.{all-at, all_in}
use Rattle.letters.specs.Alphabet.{in_alphabet}
use Rattle.formula.specs.Formula.{Formula}
use Rattle.lasso.specs.Lasso.{Lasso, over_alphabet, labelling, meets}
use Rattle.lasso.specs.Truth.{Truth, asked}
use Rattle.lasso.specs.declared.Refusal.TheVariants.{Stem, Positions, Words, Alphabet}

-- a lasso is over the alphabet exactly if the letter at each position is in it
pub over_exactly : (c : Lasso) → T (over_alphabet c) ↔ ((i : ℕ) → i < length c.letters → T (in_alphabet (get_or c.letters i 0)))
unfolding over_alphabet
over_exactly c = (all-at in_alphabet c.letters 0, all_in in_alphabet c.letters 0)

-- 16, 17, 19 and 18, and then what comes after
abbrev pub From16 : Lasso → (room : ℕ) → (Truth → Type 0) → Truth → Type 0
From16 c room After =
    Asked (c.stem < length c.letters) (Truth.refused Stem)
    (Asked (length c.letters ≤ 8192) (Truth.refused Positions)
    (Asked (T (over_alphabet c)) (Truth.refused Alphabet)
    (Asked (length c.letters ≤ room) (Truth.refused Words)
    After)))

-- the answer past them
abbrev pub truth_of : Lasso → Formula → Truth
truth_of c f = Truth.holds (meets c f) (labelling c f)

pub truth-asked : (c : Lasso) (room : ℕ) (f : Formula) → From16 c room (λ o. o ≡ truth_of c f) (asked c room f)
unfolding over_alphabet labelling meets
truth-asked c room f =
    asked_lt c.stem (length c.letters) _
    (asked_le (length c.letters) 8192 _
    (asked_of _ (over_alphabet c) (λ t. t) (λ t. t)
    (asked_le (length c.letters) room (truth_of c f)
    refl)))
