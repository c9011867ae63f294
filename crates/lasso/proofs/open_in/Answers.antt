-- `lasso::open_in` goes over the numbers inside e. The loop's invariant: those before k are gone through. A closed subformula is passed
-- over, so what is left falls by its size. Assumes nothing.
use Rattle.std.proofs.Common.{arith}
use Rattle.lasso.proofs.CodeWritten.{few, held_end, held-inside}
use Rattle.lasso.proofs.CodeOpen.{inside-some, opening_first, opening_past, opening_more}
use Rattle.lasso.proofs.open_in.Goals as goal

pub end-end-requires : goal.end-end-requires
end-end-requires c = few _ _ c.requires

pub loop-k-init : goal.loop-k-init
loop-k-init c =
    record { last = c.end-end.ensures; opening = opening_first _ _ _ c.requires c.power-mask.ensures }

pub closed-requires : goal.closed-requires
closed-requires c =
    held-inside _ _ c.requires _ (omega (arith, c.loop-k.invariant.opening.behind))
    (omega (arith, c.loop-k.invariant.last, c.loop-k-test.true))

pub end-k-requires : goal.end-k-requires
end-k-requires c =
    omega (arith, c.loop-k.invariant.last, c.loop-k-test.true, held_end _ _ c.requires)

pub loop-k-smaller-then-closed : goal.loop-k-smaller-then-closed
loop-k-smaller-then-closed c =
    let some = inside-some _ _ c.requires c.loop-k.k (omega (arith, c.loop-k.invariant.opening.behind))
    (omega (arith, c.loop-k.invariant.last, c.loop-k-test.true)) in
    omega (arith, c.end-k.ensures, c.loop-k-test.true, some)

pub loop-k-preserved-then-closed : goal.loop-k-preserved-then-closed
loop-k-preserved-then-closed c =
    record {
      last = c.loop-k.invariant.last;
      opening = opening_past _ _ _ _ c.requires c.loop-k.invariant.opening (omega (arith, c.loop-k.invariant.last, c.loop-k-test.true))
          (c.closed.ensures.yes c.if-closed.true) _ c.end-k.ensures;
    }

pub loop-k-preserved : goal.loop-k-preserved
loop-k-preserved c =
    record {
      last = c.loop-k.invariant.last;
      opening = opening_more _ _ _ _ c.requires c.loop-k.invariant.opening (omega (arith, c.loop-k.invariant.last, c.loop-k-test.true))
          (c.closed.ensures.no c.if-closed.false) _ c.power-mask-else-closed.ensures;
    }
