-- `joint::collect`: before each turn, the records that were passed and those from here on are the whole catalogue's. Each record takes four
-- bytes or more, so the bytes left fall.
use Rattle.std.proofs.Common.{refl, sym, ℕ, List, arith, rules}
use Rattle.std.specs.Borrow.{Bor}
use Rattle.catalogue.proofs.DueLaws.{due-is, handed-on}
use Rattle.joint.specs.Joint.{bytes_of}
use Rattle.joint.proofs.CollectLaws.{part-is, collect_end, collect_fault, collect_on}
use Rattle.joint.proofs.collect.Goals.{then-count-lt-MAX_FORMULAS, else-count-lt-MAX_FORMULAS}
use Rattle.joint.proofs.collect.Goals as goal

pub returns-in_err-r : goal.returns-in_err-r
returns-in_err-r c =
    rw (handed-on c.from_residual.ensures.1) (collect_fault c.args.catalogue.now c.loop-r.invariant (sym c.in_err-r.ensures.is))

pub loop-r-preserved : goal.loop-r-preserved
loop-r-preserved c =
    let e = due-is c.next_record.ensures.is c.in_ok-r.was c.in-Some.is in
    elim c.if-count-lt-MAX_FORMULAS.branch [
      | then-count-lt-MAX_FORMULAS w ↦
          collect_on c.args.catalogue.now c.loop-r.invariant e (search rules) _ (part-is _ c.in-Some.r) (λ h. w.parts-is)
      | else-count-lt-MAX_FORMULAS w ↦
          let part : Bor (List ℕ) = record { ref_ptr = (0, 0); now = bytes_of c.args.catalogue.now c.in-Some.r } in
          collect_on c.args.catalogue.now c.loop-r.invariant e (search rules) part refl
          (λ h. absurd (omega (arith, w.if-count-lt-MAX_FORMULAS.false)))
    ]

pub returns : goal.returns
returns c =
    collect_end c.args.catalogue.now c.loop-r.invariant (due-is c.next_record.ensures.is c.in_ok-r.was c.in_default.is)
