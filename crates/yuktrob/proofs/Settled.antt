-- MEANING 6.1: the decision of the first 97 bytes is the decision of all of them, as their reading is. Assumes nothing.
use Rattle.std.proofs.Common.{◌≡◌, ap, List, ℕ, take}
use Rattle.formula.proofs.Prefix.{parse_prefix}
use Rattle.decision.specs.Verdict.{verdict, after_reading}
use Rattle.decision.proofs.VerdictLaws.{questions}

pub settled : (N M room places : ℕ) (bytes : List ℕ) → verdict N M room places (take 97 bytes) ≡ verdict N M room places bytes
unfolding verdict
settled N M room places bytes = ap (after_reading (questions N M room places)) (parse_prefix bytes)
