-- verdict_text::program_text meets its contract: the verdict, the line's end, and the witness, from the buffer's start on; what was lent
-- holds them when it comes back. Assumes nothing.
use Rattle.std.proofs.Common.{rules, ◌≡◌, subst, List, ℕ}
use Rattle.std.proofs.Math.Path.{subst⁻¹}
use Rattle.text.specs.Text.{Buffer, buffer, Wrote}
use Rattle.text.specs.State.{state}
use Rattle.text.proofs.Writing.{then}
use Rattle.verdict_text.specs.Texts.{program_text}
use Rattle.verdict_text.proofs.program_text.Goals as goal

-- what was written stands in the buffer whose bytes are these
come_back : {s : Buffer} {text bytes bytes' : List ℕ} {at : ℕ} → bytes' ≡ bytes → Wrote s text (buffer bytes at)
    → Wrote s text (buffer bytes' at)
come_back {s} {text} {at = at} e w = subst⁻¹ (λ l. Wrote s text (buffer l at)) e w

pub returns : goal.returns
returns c =
    come_back (search rules)
    (subst (λ (s : Buffer). Wrote s (program_text c.args.answer c.args.letters.now) (state c.lasso_text.new.out))
    c.new-text.ensures.at_start
    (then (then c.verdict_text.ensures.wrote c.put.ensures.wrote) c.lasso_text.ensures.wrote))
