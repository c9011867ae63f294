-- `lasso::order` stays within the keys. Assumes nothing.
use Rattle.std.proofs.Common.{arith, sym, length-take-le}
use Rattle.lasso.proofs.CodeWritten.{held_end}
use Rattle.lasso.proofs.order.Goals as goal

pub depth-requires : goal.depth-requires
depth-requires c = omega (arith, c.end-end.ensures, held_end _ _ c.requires)

pub overflow_sub-keys : goal.overflow_sub-keys
overflow_sub-keys c = omega (arith, c.end-end.ensures, held_end _ _ c.requires)

pub bounds-keys-k : goal.bounds-keys-k
bounds-keys-k c = omega (arith, c.end-end.ensures, held_end _ _ c.requires)

pub slice_bounds-keys-end : goal.slice_bounds-keys-end
slice_bounds-keys-end c = omega (arith, c.end-end.ensures, held_end _ _ c.requires, c.loop-k.invariant)

pub slice_bounds-sort_unstable-end : goal.slice_bounds-sort_unstable-end
slice_bounds-sort_unstable-end c =
    sym (length-take-le _ _ (omega (arith, c.end-end.ensures, held_end _ _ c.requires, c.loop-k.invariant)))
