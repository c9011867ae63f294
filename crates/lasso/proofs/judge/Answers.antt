-- `lasso::judge`: each question's refusal is the definition's, and after the last one the formula's labelling is the answer. Assumes
-- nothing.
use Rattle.std.proofs.Common.{sym, ◌∙◌}
use Rattle.lasso.proofs.CodeAsked.{no-cycle, too_long, other_letter, no_room, judged}
use Rattle.lasso.proofs.judge.Goals as goal

pub returns-then-letters-stem : goal.returns-then-letters-stem
returns-then-letters-stem c = no-cycle _ _ _ c.if-letters-stem.true

pub returns-then-letters-gt8192 : goal.returns-then-letters-gt8192
returns-then-letters-gt8192 c = too_long _ _ _ c.if-letters-stem.false c.if-letters-gt8192.true

pub returns-then-not-all_in_alphabet : goal.returns-then-not-all_in_alphabet
returns-then-not-all_in_alphabet c =
    other_letter _ _ _ c.if-letters-stem.false c.if-letters-gt8192.false
    (sym c.all_in_alphabet.ensures ∙ c.if-not-all_in_alphabet.true)

pub returns-then-words-letters : goal.returns-then-words-letters
returns-then-words-letters c =
    no_room _ _ _ c.if-letters-stem.false c.if-letters-gt8192.false
    (sym c.all_in_alphabet.ensures ∙ c.if-not-all_in_alphabet.false)
    c.if-words-letters.true

pub returns : goal.returns
returns c =
    judged _ _ _ _ _ c.if-letters-stem.false c.if-letters-gt8192.false
    (sym c.all_in_alphabet.ensures ∙ c.if-not-all_in_alphabet.false) c.if-words-letters.false
    c.whole.ensures
