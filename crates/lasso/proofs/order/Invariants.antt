-- `lasso::order` stays within the keys. Assumes nothing.
use Rattle.std.proofs.Common.{◌≡◌, length}
use Rattle.lasso.proofs.order.Given as goal

abbrev pub invariant-loop-k : goal.invariant-loop-k
invariant-loop-k l = length l.keys ≡ 48
