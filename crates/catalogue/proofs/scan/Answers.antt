-- `catalogue::scan`: before each turn, no record so far had the number, so the records from here on come to what the catalogue comes to.
-- Each record takes four bytes or more, so the bytes left fall. Assumes nothing.
use Rattle.std.proofs.Common.{sym, ◌∙◌}
use Rattle.catalogue.proofs.DueLaws.{due-is, handed-on}
use Rattle.catalogue.proofs.ScanLaws.{scan_end, scan_fault, scan_on, scan_broken, scan_found}
use Rattle.catalogue.proofs.scan.Goals as goal

pub returns-in_err-r : goal.returns-in_err-r
returns-in_err-r c =
    handed-on c.from_residual.ensures.1
    ∙ scan_fault c.args.catalogue.now c.args.number c.loop-r.invariant (sym c.in_err-r.ensures.is)

pub returns-in_err-passed : goal.returns-in_err-passed
returns-in_err-passed c =
    handed-on c.from_residual-in_err-passed.ensures.1
    ∙ scan_broken c.args.catalogue.now c.args.number c.loop-r.invariant
    (due-is c.next_record.ensures.is c.in_ok-r.was c.in-Some.is) c.in_err-passed.ensures

pub returns-then-r-number : goal.returns-then-r-number
returns-then-r-number c =
    scan_found c.args.catalogue.now c.args.number c.loop-r.invariant
    (due-is c.next_record.ensures.is c.in_ok-r.was c.in-Some.is) c.if-r-number.true c.in_ok-passed.ensures

pub loop-r-preserved : goal.loop-r-preserved
loop-r-preserved c =
    scan_on c.args.catalogue.now c.args.number c.loop-r.invariant
    (due-is c.next_record.ensures.is c.in_ok-r.was c.in-Some.is) c.if-r-number.false

pub returns : goal.returns
returns c =
    scan_end c.args.catalogue.now c.args.number c.loop-r.invariant
    (due-is c.next_record.ensures.is c.in_ok-r.was c.in_default.is)
