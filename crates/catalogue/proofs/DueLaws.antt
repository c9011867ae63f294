-- What code that goes through a catalogue knows of a place where a record is due: what stands there, once `next_record` has answered and
-- the answer was taken apart; and the fault that `?` hands on. Assumes nothing.
use Rattle.std.proofs.Common.{◌≡◌, sym, ap, ◌∙◌, ℕ, Result, Ok, Err}
use Rattle.std.specs.Result.{IsErrAnd}
use Rattle.std.proofs.lemmas.Result.{err_from_is_err_and}

pub due-is : {A : Type 0} {due answer : Result A ℕ} {taken found : A} → answer ≡ due → answer ≡ Ok taken → taken ≡ found
    → due ≡ Ok found
due-is is was e = sym is ∙ was ∙ ap Ok e

pub handed-on : {A : Type 0} {answer : Result A ℕ} {place : ℕ} → IsErrAnd answer (λ y. y ≡ place) → answer ≡ Err place
handed-on {answer = answer} e =
    let p = err_from_is_err_and answer e in
    p.1 ∙ ap Err p.2
