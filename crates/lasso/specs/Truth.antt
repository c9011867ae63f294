-- The truth operation: its questions, its answer and what its word area holds afterwards (MEANING 2.5, 2.6). Assumes nothing.
use Rattle.std.specs.Prelude.{Bool, List, ◌++◌, ℕ, ltb, leb, length, drop}
use Rattle.base.specs.Ask.{ask}
use Rattle.formula.specs.Formula.{Formula}
use Rattle.formula.specs.Reading.{Reading, parse}
use Rattle.lasso.specs.Lasso.{Lasso, over_alphabet, labelling, meets}
use Rattle.lasso.specs.declared.Refusal.{Refusal}
use Rattle.lasso.specs.declared.Refusal.TheVariants.{Unread, Stem, Positions, Words, Alphabet}

-- Its outcome: a refusal, whose number is its `code_of`; or whether the lasso meets the formula, and the words.
pub data Truth : Type 0 where
  refused : Refusal → Truth
  holds : (truth : Bool) (words : List ℕ) → Truth

-- The questions after reading, 16, 17, 19 and 18, and the answer. 19 is asked before 18.
abbrev pub asked : Lasso → (room : ℕ) → Formula → Truth
unfolding over_alphabet labelling meets
asked c room f =
    let n = length c.letters in
    ask (ltb c.stem n) (Truth.refused Stem)
    (ask (leb n 8192) (Truth.refused Positions)
    (ask (over_alphabet c) (Truth.refused Alphabet)
    (ask (leb n room) (Truth.refused Words)
    (Truth.holds (meets c f) (labelling c f)))))

-- A refusal of reading is handed on; a formula is asked about.
abbrev pub after_reading : Lasso → (room : ℕ) → Reading Formula → Truth
unfolding over_alphabet labelling meets
after_reading c room (Reading.refused why) = Truth.refused (Unread why)
after_reading c room (Reading.accepted f) = asked c room f

-- The whole: a formula's bytes, a lasso, and how many words are lent.
unfoldable pub truth : List ℕ → Lasso → (room : ℕ) → Truth
unfolding parse over_alphabet labelling meets
truth bytes c room = after_reading c room (parse bytes)

-- The lent words afterwards: the words of the positions and then what was there; after a refusal what was there.
abbrev pub written : Truth → List ℕ → List ℕ
written (Truth.refused why) lent = lent
written (Truth.holds b words) lent = words ++ drop (length words) lent
