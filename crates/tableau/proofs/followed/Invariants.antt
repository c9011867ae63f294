-- `tableau::followed` follows the moves of the fringe until it is empty. What a turn puts into the fringe the set gains, so that twice what
-- the set lacks, with the fringe, gets less.
use Rattle.std.proofs.Common.{ℕ, ◌+◌, ◌*◌, ◌-◌, ◌^◌, ◌<◌, T}
use Rattle.base.specs.Bits.{bit}
use Rattle.tableau.specs.Fringe.{Spread}
use Rattle.tableau.proofs.followed.Given as goal

abbrev pub invariant-loop-fringe : goal.invariant-loop-fringe
invariant-loop-fringe g l =
    ((k : ℕ) → T (bit l.fringe k) → k < l.count)
    × ((node : ℕ) → Spread g.go l.count node l.initial.set l.initial.fringe → Spread g.go l.count node l.set l.fringe)

abbrev pub decreases-loop-fringe : goal.decreases-loop-fringe
decreases-loop-fringe g l = 2 * (2 ^ 64 - l.set) + l.fringe
