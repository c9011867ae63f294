-- verdict_text::lasso_text meets its contract: the stem's letters and the cycle's, or nothing. Assumes nothing.
use Rattle.std.proofs.Common.{◌≡◌, sym, ap, ◌∙◌, List, ◌++◌, ℕ, take, drop, Ok}
use Rattle.std.proofs.Math.Path.{subst⁻¹}
use Rattle.text.specs.Text.{Buffer, Wrote, each, letter_text}
use Rattle.text.proofs.Writing.{then}
use Rattle.decision.specs.Contract.{Answer}
use Rattle.decision.specs.declared.Verdict.{Verdict}
use Rattle.decision.specs.declared.Verdict.TheVariants.{Satisfiable}
use Rattle.verdict_text.specs.Texts.{lasso_text}
use Rattle.verdict_text.proofs.lasso_text.Goals as goal

-- what was written are the letters of a witness
wrote-lasso : {s t : Buffer} {r : Answer} {v : Verdict} {stem cycle K c : ℕ} (letters f g b : List ℕ) {there around : List ℕ} → r ≡ Ok v
    → v ≡ Satisfiable stem cycle K c → there ≡ take stem letters → around ≡ take cycle (drop stem letters)
    → Wrote s (each (letter_text f b) there ++ each (letter_text g b) around) t → Wrote s (lasso_text r letters f g b) t
wrote-lasso {s} {t} letters f g b e d p q w =
    subst⁻¹ (λ (x : Answer). Wrote s (lasso_text x letters f g b) t) (e ∙ ap Ok d) (rw (sym p, sym q) w)

pub returns-clause-wrote : goal.returns-clause-wrote
returns-clause-wrote c =
    wrote-lasso c.args.letters.now c.args.stem_front.now c.args.cycle_front.now c.args.back.now
    c.in-Ok-Satisfiable.is
    (rw c.in-Ok-Satisfiable.is at c.in-Ok-Satisfiable.field-0-is)
    c.part.ensures
    c.part-2.ensures
    (then c.letters.ensures.wrote c.letters-2.ensures.wrote)
