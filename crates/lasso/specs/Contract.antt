-- The truth operation's parameters and answer as the code has them. Assumes nothing.
use Rattle.std.specs.Prelude.{Bool, List, ℕ, Result, Ok, Err}
use Rattle.lasso.specs.Lasso.{Lasso}
use Rattle.lasso.specs.Truth.{Truth}
use Rattle.lasso.specs.declared.Refusal.{Refusal}

-- the lasso that a caller gives
abbrev pub lasso : (letters : List ℕ) (stem : ℕ) → Lasso
lasso letters stem = record { letters = letters; stem = stem }

-- The answer for each outcome: a refusal (MEANING 7.1), or the truth of subformula 0 at position 0 (MEANING 2.6).
abbrev pub answer : Truth → Result Bool Refusal
answer (Truth.refused why) = Err why
answer (Truth.holds b words) = Ok b
