-- `catalogue::passed`: before each turn, the records from here on come to an end, or to a fault, as those from the first on. Each record
-- takes four bytes or more, so the bytes left fall. Assumes nothing.
use Rattle.std.proofs.Common.{sym, ◌∙◌}
use Rattle.catalogue.proofs.DueLaws.{due-is, handed-on}
use Rattle.catalogue.proofs.ScanLaws.{pass_end, pass_fault, pass_on}
use Rattle.catalogue.proofs.passed.Goals as goal

pub returns-in_err-r : goal.returns-in_err-r
returns-in_err-r c =
    handed-on c.from_residual.ensures.1 ∙ pass_fault c.args.catalogue.now c.loop-r.invariant (sym c.in_err-r.ensures.is)

pub loop-r-preserved : goal.loop-r-preserved
loop-r-preserved c =
    pass_on c.args.catalogue.now c.loop-r.invariant (due-is c.next_record.ensures.is c.in_ok-r.was c.in-Some.is)

pub returns : goal.returns
returns c =
    pass_end c.args.catalogue.now c.loop-r.invariant (due-is c.next_record.ensures.is c.in_ok-r.was c.in_default.is)
