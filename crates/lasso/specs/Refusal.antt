-- The numbers of the truth operation's refusals (MEANING 2.5). Assumes nothing.
use Rattle.std.specs.Prelude.{ℕ}
use Rattle.formula.specs.Refusal as reading
use Rattle.lasso.specs.declared.Refusal.{Refusal}
use Rattle.lasso.specs.declared.Refusal.TheVariants.{Unread, Stem, Positions, Words, Alphabet}

-- 16: the stem does not end before the last position; 17: there are more than 8192 positions; 18: fewer words are lent; 19: a letter is not
-- in the alphabet. A refusal of reading keeps its number.
abbrev pub code_of : Refusal → ℕ
code_of (Unread why) = reading.code_of why
code_of Stem = 16
code_of Positions = 17
code_of Words = 18
code_of Alphabet = 19
