-- The program's buffer has room for the text of every verdict, so that what it prints is the text and nothing of it is lost. Assumes
-- nothing.
use Rattle.std.proofs.Common.{◌≡◌, subst, ◌∙◌, List, ℕ, arith}
use Rattle.text.specs.Text.{buffer, Wrote}
use Rattle.text.proofs.Writing.{stands}
use Rattle.decision.specs.Verdict.{workspace_size, witness_size, verdict}
use Rattle.decision.specs.Lends.{Lends}
use Rattle.decision.specs.Inner.{Answers}
use Rattle.decision.specs.Contract.{Answer}
use Rattle.verdict_text.specs.Texts.{program_text, shown_text}
use Rattle.verdict_text.proofs.Showing.{shows}
use Rattle.verdict_text.proofs.Lengths.{verdict_shown_short}
use Rattle.yuktrob.specs.Printed.{nodes, profiles, Printed}

-- areas of these lengths are what the questions 11 to 13 ask
pub enough : {workspace places : ℕ} → workspace ≡ workspace_size nodes profiles → places ≡ witness_size nodes profiles
    → Lends nodes profiles workspace places
enough h k =
    record {
      capacity =
          record { some_nodes = omega arith; few_nodes = omega arith; some_profiles = omega arith; few_profiles = omega arith };
      workspace_fits = omega (arith, h);
      buffer_fits = omega (arith, k);
    }

-- Theorem: the text of an answer to the verdict, with areas of these lengths, is what the program is to print, and stands whole.
pub prints : {workspace places : ℕ} {bytes out out' b b' : List ℕ} {r : Answer} {end : ℕ}
    → Answers (verdict nodes profiles workspace places bytes) b b' r
    → workspace ≡ workspace_size nodes profiles → places ≡ witness_size nodes profiles
    → Wrote (buffer out 0) (program_text r b') (buffer out' end) → Printed bytes out out' end
prints {workspace} {places} {bytes} {out} {out'} {end = end} a h k p =
    let e = shows nodes profiles workspace places bytes a ∙ (λ i. shown_text (verdict nodes profiles (h i) (k i) bytes)) in
    let wrote = subst (λ (text : List ℕ). Wrote (buffer out 0) text (buffer out' end)) e p in
    record {
      wrote = wrote;
      whole = λ l.
          stands wrote
          (omega (arith, verdict_shown_short (workspace_size nodes profiles) (witness_size nodes profiles) bytes));
    }
