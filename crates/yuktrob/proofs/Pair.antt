-- The program builds and then searches, which is the decision: what it answers and leaves in the witness buffer is the decision's, whatever
-- building answers. Assumes nothing.
use Rattle.std.proofs.Common.{◌≡◌, List, ℕ, length, Result, Ok, Err}
use Rattle.formula.specs.declared.Refusal as reading
use Rattle.construction.specs.Contract.{Constructed}
use Rattle.construction.specs.declared.Refusal.{Refusal}
use Rattle.construction.specs.declared.Refusal.TheVariants.{Unread, No}
use Rattle.decision.specs.Verdict.{verdict}
use Rattle.decision.specs.Lends.{Lends}
use Rattle.decision.specs.Contract.{Answer, Decided, Searched}
use Rattle.decision.specs.Inner.{Answers}
use Rattle.decision.proofs.PairLaws.{InARow, in_a_row}

module _ (bytes : List ℕ) (N M : ℕ) (w b : List ℕ) (l : Lends N M (length w) (length b)) {w₁ : List ℕ} {a : Result ℕ Refusal}
    (c : Constructed bytes N w w₁ a) where
  abbrev Answered : (b' : List ℕ) → Answer → Type 0
  Answered b' r = Answers (verdict N M (length w) (length b) bytes) b b' r

  answers_of : {w' b' : List ℕ} {r : Answer} → Decided bytes N M w w' b b' r → Answered b' r
  answers_of d = record { answered = d.answered; buffered = d.buffered }

  -- building answered this
  onward : {x : Result ℕ Refusal} → a ≡ x → InARow bytes N M w b l x w₁
  onward e = in_a_row bytes N M w b l c e

  handed_on : (why : Refusal) → InARow bytes N M w b l (Err why) w₁ → Answered b (Err why)
  handed_on (Unread why) d = answers_of d
  handed_on (No q) d = answers_of d

  pub pair-refused : {why : Refusal} → a ≡ Err why → Answers (verdict N M (length w) (length b) bytes) b b (Err why)
  pair-refused {why} e = handed_on why (onward e)

  -- of a refusal of reading
  pub pair-unread : {why : reading.Refusal} → a ≡ Err (Unread why)
      → Answers (verdict N M (length w) (length b) bytes) b b (Err (Unread why))
  pair-unread e = pair-refused e

  pub pair-searched : {K : ℕ} {w₂ b₂ : List ℕ} {r : Answer} → a ≡ Ok K → Searched bytes K N M w₁ w₂ b b₂ r
      → Answers (verdict N M (length w) (length b) bytes) b b₂ r
  pair-searched {w₂ = w₂} {b₂} {r} e s = answers_of (onward e w₂ b₂ r s)
