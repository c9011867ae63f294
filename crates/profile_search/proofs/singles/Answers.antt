-- `profile_search::singles` adds the profiles of one transition, node by node. The invariant: those of the nodes before i are done.
use Rattle.std.proofs.Common.{◌+◌, arith}
use Rattle.profile_search.proofs.SingleLaws.{given-kept, all_start, all_turn, all_stop, all_done}
use Rattle.profile_search.proofs.singles.Goals as goal

pub loop-i-init : goal.loop-i-init
loop-i-init c = record { some = omega arith; room = omega arith; grown = all_start c.requires }

pub singles_of-requires : goal.singles_of-requires
singles_of-requires c =
    record {
      given = given-kept c.requires c.loop-i.invariant.grown.elsewhere (omega arith);
      node = c.loop-i-test.true;
      room = c.loop-i.invariant.room;
      chained = c.loop-i.invariant.grown.chained c.loop-i.invariant.room;
    }

pub loop-i-preserved : goal.loop-i-preserved
loop-i-preserved c =
    let told = c.in_ok-all.ensures in
    record {
      some = omega arith;
      room = told.0;
      grown = all_turn c.requires c.loop-i.i c.loop-i.invariant.some c.loop-i-test.true c.loop-i.invariant.room c.loop-i.invariant.grown
          told.1;
    }

pub returns-in_err-all : goal.returns-in_err-all
returns-in_err-all c =
    rw c.from_residual.ensures
    (all_stop c.requires (c.loop-i.i + 1) (omega arith) (omega (arith, c.loop-i-test.true))
    (all_turn c.requires c.loop-i.i c.loop-i.invariant.some c.loop-i-test.true c.loop-i.invariant.room c.loop-i.invariant.grown
    c.in_err-all.ensures))

pub returns : goal.returns
returns c = (
  c.loop-i.invariant.room,
  all_done c.requires c.loop-i.i (omega (arith, c.requires.some)) c.loop-i-test.false c.loop-i.invariant.grown,
)
