-- What is shown of a formula is settled by its bytes and by how much is lent: the text of the decision's answer and of what it leaves in
-- the witness buffer is that of the verdict which the definition gives, since of the buffer the witness's letters alone are shown.
-- Assumes nothing.
use Rattle.std.proofs.Common.{Ok, ◌≡◌, refl, sym, ap, ◌∙◌, List, [], ◌∷◌, ◌++◌, append_assoc, append-nil, ℕ, ◌+◌, length, take, drop}
use Rattle.std.proofs.Math.Seq.{take-append_seam, drop-append_seam}
use Rattle.text.specs.Text.{each, letter_text}
use Rattle.decision.specs.Verdict.{Verdict, verdict}
use Rattle.decision.specs.Contract.{Answer, says, leaves}
use Rattle.decision.specs.Inner.{Answers}
use Rattle.decision.specs.declared.Verdict.TheVariants.{Satisfiable}
use Rattle.decision.proofs.Answer.{Says, verdict-says}
use Rattle.decision.proofs.Bounds.{LettersParted, witness_parted}
use Rattle.verdict_text.specs.Texts.{verdict_text, lasso_text, program_text, shown_text}

-- the texts of the two parts of a witness that stands at a buffer's start
parts : (f g : ℕ → List ℕ) (xs ys zs : List ℕ) {stem cycle : ℕ} {l : List ℕ} → stem ≡ length xs → cycle ≡ length ys → l ≡ xs ++ (ys ++ zs)
    → each f (take stem (drop 0 l)) ++ each g (take cycle (drop stem l)) ≡ each f xs ++ each g ys
parts f g xs ys zs p q e = rw (p, q, e, take-append_seam xs (ys ++ zs), drop-append_seam xs (ys ++ zs), take-append_seam ys zs) refl

pub lasso_parts : {stem cycle : ℕ} (K c : ℕ) {letters l : List ℕ} (rest : List ℕ) (w : LettersParted stem cycle letters)
    → l ≡ letters ++ rest → (stem-front cycle-front back : List ℕ)
    → lasso_text (Ok (Satisfiable stem cycle K c)) l stem-front cycle-front back
    ≡ each (letter_text stem-front back) w.before ++ each (letter_text cycle-front back) w.around
lasso_parts K c rest w e stem-front cycle-front back =
    parts (letter_text stem-front back) (letter_text cycle-front back) w.before w.around rest w.stem_is w.cycle_is
    (e ∙ ap (λ (m : List ℕ). m ++ rest) w.parts ∙ append_assoc w.before w.around rest)

shown_by : (bytes b : List ℕ) (o : Verdict) → Says bytes o → program_text (says o) (leaves o b) ≡ shown_text o
shown_by bytes b (Verdict.unread why) h = refl
shown_by bytes b (Verdict.refused q) h = refl
shown_by bytes b (Verdict.satisfiable stem cycle K c letters) h =
    let w = witness_parted h.witness in
    ap (λ (m : List ℕ). verdict_text (Ok (Satisfiable stem cycle K c)) ++ (10 ∷ []) ++ m)
    (lasso_parts K c (drop (stem + cycle) b) w refl (83 ∷ 32 ∷ []) (76 ∷ 32 ∷ []) (10 ∷ [])
    ∙ sym (lasso_parts K c [] w (sym (append-nil letters)) (83 ∷ 32 ∷ []) (76 ∷ 32 ∷ []) (10 ∷ [])))
shown_by bytes b (Verdict.unsatisfiable K P) h = refl

-- Theorem: the text of an answer to a verdict, and of what it leaves in the witness buffer, is that of the verdict.
pub shows : (N M workspace buffer : ℕ) (bytes : List ℕ) {b b' : List ℕ} {r : Answer}
    → Answers (verdict N M workspace buffer bytes) b b' r → program_text r b' ≡ shown_text (verdict N M workspace buffer bytes)
shows N M workspace buffer bytes {b} a =
    (λ i. program_text (a.answered i) (a.buffered i))
    ∙ shown_by bytes b (verdict N M workspace buffer bytes) (verdict-says N M workspace buffer bytes)
