-- `yuktrob_c::yuktrob_read`: a refusal of reading becomes its number; the subformulas of an accepted formula are counted. Assumes nothing.
use Rattle.std.proofs.Common.{sym, ap, ◌∙◌, ℕ, ◌≤◌, ◌<◌, arith}
use Rattle.formula.proofs.FitLaws.{accepted_readable}
use Rattle.yuktrob_c.specs.Numbers.{number, reading_number}
use Rattle.yuktrob_c.proofs.Early.{refused-reading, refused-early}
use Rattle.yuktrob_c.proofs.EntryLaws.{reading-accepted, accepted-count}
use Rattle.yuktrob_c.proofs.yuktrob_read.Goals as goal

pub refusal_number-requires : goal.refusal_number-requires
refusal_number-requires c = refused-early _ c.read.result c.read.ensures.outcome c.in-Err.is

pub number-requires : goal.number-requires
number-requires c =
    few-fits (accepted_readable _ c.read.result c.read.ensures.outcome c.in-Ok.is).few
  where
    few-fits : {n : ℕ} → n ≤ 48 → n < 72057594037927936
    few-fits h = omega arith

pub returns-in-Err : goal.returns-in-Err
returns-in-Err c =
    c.refusal_number.ensures ∙ sym
    (ap reading_number (refused-reading c.args.rule.now c.read.result c.read.ensures.outcome c.in-Err.is))

pub returns-in-Ok : goal.returns-in-Ok
returns-in-Ok c =
    c.number.ensures ∙ sym (ap (number 0) (accepted-count c.in-Ok.t)) ∙
    ap reading_number (reading-accepted c.args.rule.now c.read.result c.read.ensures.outcome c.in-Ok.is)
