-- The number of every answer on a substitution fits: a refusal of reading takes 24 bits, and what it is about two; the bytes and the
-- subformulas take seven bits at most. Assumes nothing.
use Rattle.std.proofs.Common.{Result, Ok, Err, ◌≡◌, List, ℕ, ◌≤◌, arith}
use Rattle.std.proofs.Math.Path.{subst⁻¹}
use Rattle.substitution.specs.Substitution.{substitution}
use Rattle.substitution.specs.Contract.{handed}
use Rattle.substitution.specs.declared.Substitution as result
use Rattle.substitution.specs.declared.Refusal.{Refusal}
use Rattle.substitution.specs.declared.Refusal.TheVariants.{Unread, Missing}
use Rattle.substitution.proofs.Bounds.{AnswerSmall, substitution_bounded}
use Rattle.yuktrob_c.specs.Numbers.{EditFits}

small-fits : (answer : Result ℕ Refusal) → AnswerSmall answer → EditFits answer
small-fits (Ok count) s = omega arith
small-fits (Err (Unread source why)) s = s
small-fits (Err Missing) s = tt

pub edit_fits : (old : List ℕ) (e : ℕ) (new : List ℕ) {r : result.Substitution} → r ≡ handed (substitution old e new)
    → EditFits r.answer × (r.table.count ≤ 48)
edit_fits old e new is =
    let b = substitution_bounded old e new in
    subst⁻¹ (λ (r : result.Substitution). EditFits r.answer × (r.table.count ≤ 48)) is
    (small-fits (handed (substitution old e new)).answer b.answered, b.few)
