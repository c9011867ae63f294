-- `yuktrob_c::yuktrob_entry`: a refusal of reading becomes its number; of an accepted formula the entry is told. Assumes nothing.
use Rattle.std.proofs.Common.{sym, ap, ◌∙◌}
use Rattle.formula.specs.Table.{Entries}
use Rattle.formula.specs.Reading.{Reading}
use Rattle.formula.proofs.FitLaws.{accepted_readable}
use Rattle.yuktrob_c.specs.Entry.{entry_number}
use Rattle.yuktrob_c.proofs.Early.{refused-reading, refused-early}
use Rattle.yuktrob_c.proofs.EntryLaws.{reading-accepted}
use Rattle.yuktrob_c.proofs.yuktrob_entry.Goals as goal

pub refusal_number-requires : goal.refusal_number-requires
refusal_number-requires c = refused-early _ c.read.result c.read.ensures.outcome c.in-Err.is

pub entry-requires : goal.entry-requires
entry-requires c = accepted_readable _ c.read.result c.read.ensures.outcome c.in-Ok.is

pub returns-in-Err : goal.returns-in-Err
returns-in-Err c =
    c.refusal_number.ensures ∙ sym
    (ap (λ (x : Reading Entries). entry_number x c.args.e)
    (refused-reading c.args.rule.now c.read.result c.read.ensures.outcome c.in-Err.is))

pub returns-in-Ok : goal.returns-in-Ok
returns-in-Ok c =
    c.entry.ensures ∙ ap (λ (x : Reading Entries). entry_number x c.args.e)
    (reading-accepted c.args.rule.now c.read.result c.read.ensures.outcome c.in-Ok.is)
