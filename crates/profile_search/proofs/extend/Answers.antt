-- `profile_search::extend` adds one profile followed by each of one transition. The invariant: the first q of these are done. Those before
-- the first that is tried begin before the profile's last node, and those behind the last one begin after it.
use Rattle.std.proofs.Common.{◌+◌, sym, subst, arith}
use Rattle.profile_search.specs.Stored.{StoreFits}
use Rattle.profile_search.proofs.TurnLaws.{extend_start, extend_more, extend_stop, extend_done}
use Rattle.profile_search.proofs.extend.Goals as goal

pub begin_before-end-requires : goal.begin_before-end-requires
begin_before-end-requires c =
    record {
      store_fits = c.requires.store_chained.fits;
      singles_le_capacity = omega (arith, c.requires.store_chained.room);
      rising = c.requires.rising;
    }

pub loop-q-init : goal.loop-q-init
loop-q-init c =
    record {
      turn = c.begin_before-first.ensures.among;
      room = c.requires.store_chained.room;
      grown = extend_start c.args.store c.args.count c.args.p c.args.area.now c.begin_before-first.result c.requires.store_chained.room
          c.requires.store_chained.chained
          (λ j l h e. omega (arith, c.begin_before-first.ensures.before j h, c.header_of-e.ensures.last));
    }

pub longer-requires : goal.longer-requires
longer-requires c =
    record {
      store_chained = record {
        fits = subst (StoreFits c.args.store) (sym c.loop-q.invariant.grown.elsewhere.same_length) c.requires.store_chained.fits;
        room = c.loop-q.invariant.room;
        chained = c.loop-q.invariant.grown.chained c.loop-q.invariant.room;
      };
      p_lt_count = (
        omega (arith, c.loop-q.invariant.grown.more),
        omega (arith, c.loop-q.invariant.grown.more, c.begin_before-end.ensures.among),
      );
    }

pub loop-q-preserved : goal.loop-q-preserved
loop-q-preserved c =
    let told = c.in_ok-all.ensures in
    record {
      turn = omega (arith, c.begin_before-end.ensures.among, c.loop-q-test.true);
      room = told.0;
      grown = extend_more c.args.store c.args.count c.args.p c.args.area.now c.loop-q.q c.requires.p_lt_count.0
          (omega (arith, c.begin_before-end.ensures.among, c.loop-q-test.true, c.requires.p_lt_count.1))
          c.loop-q.invariant.room c.loop-q.invariant.grown told.1;
    }

pub returns-in_err-all : goal.returns-in_err-all
returns-in_err-all c =
    rw c.from_residual.ensures
    (extend_stop c.args.store c.args.count c.args.p c.args.area.now (c.loop-q.q + 1) c.args.singles (omega arith)
    (omega (arith, c.begin_before-end.ensures.among, c.loop-q-test.true))
    (extend_more c.args.store c.args.count c.args.p c.args.area.now c.loop-q.q c.requires.p_lt_count.0
    (omega (arith, c.begin_before-end.ensures.among, c.loop-q-test.true, c.requires.p_lt_count.1))
    c.loop-q.invariant.room c.loop-q.invariant.grown c.in_err-all.ensures))

pub returns : goal.returns
returns c = (
  c.loop-q.invariant.room,
  extend_done c.args.store c.args.count c.args.p c.args.area.now c.loop-q.q c.args.singles c.loop-q.invariant.turn
      (λ j m h e. omega (arith, c.begin_before-end.ensures.behind j (omega (arith, c.loop-q-test.false)) h, c.header_of-e.ensures.last))
      c.loop-q.invariant.grown,
)
