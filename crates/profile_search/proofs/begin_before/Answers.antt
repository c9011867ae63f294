-- `profile_search::begin_before` halves the records between those that are known to begin before the node and those that are known not to.
use Rattle.profile_search.proofs.RisingLaws.{halved_start, halved_up, halved_down, halved_done}
use Rattle.std.proofs.Common.{arith}
use Rattle.profile_search.proofs.begin_before.Goals as goal

pub loop-low-init : goal.loop-low-init
loop-low-init c = halved_start _ _ _ _

pub overflow_add-middle : goal.overflow_add-middle
overflow_add-middle c = omega (arith, c.loop-low.invariant.among, c.args.store.few)

pub header_of-e-requires : goal.header_of-e-requires
header_of-e-requires c =
    record {
      store_fits = c.requires.store_fits;
      p_lt_capacity = omega (arith, c.loop-low.invariant.among, c.requires.singles_le_capacity);
    }

pub overflow_add-low : goal.overflow_add-low
overflow_add-low c =
    omega (arith, c.loop-low.invariant.among, c.args.store.few)

pub loop-low-preserved-then-e-node : goal.loop-low-preserved-then-e-node
loop-low-preserved-then-e-node c =
    halved_up c.loop-low.invariant c.requires.rising _ (omega arith) (omega arith) (omega (arith, c.header_of-e.ensures.first))

pub loop-low-preserved : goal.loop-low-preserved
loop-low-preserved c =
    halved_down c.loop-low.invariant c.requires.rising _ (omega arith) (omega arith) (omega (arith, c.header_of-e.ensures.first))

pub returns : goal.returns
returns c = halved_done c.loop-low.invariant c.loop-low-test.false
