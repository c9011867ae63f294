-- `profile_search::layer` goes on from each record of a layer in turn. The invariant: what the search has found up to number p is in the
-- area.
use Rattle.std.proofs.Common.{sym, subst, arith}
use Rattle.profile_search.specs.Stored.{StoreFits}
use Rattle.profile_search.proofs.RisingLaws.{rising-kept}
use Rattle.profile_search.proofs.TurnLaws.{pending_start, pending_next, pending_stop, pending_done}
use Rattle.profile_search.proofs.layer.Goals as goal

pub loop-p-init : goal.loop-p-init
loop-p-init c =
    record {
      room = c.requires.store_chained.room;
      pending = pending_start _ _ _ _ _ c.requires.store_chained.room c.requires.store_chained.chained;
    }

pub extend-requires : goal.extend-requires
extend-requires c =
    record {
      store_chained = record {
        fits = subst (StoreFits c.args.store) (sym c.loop-p.invariant.pending.grown.elsewhere.same_length) c.requires.store_chained.fits;
        room = c.loop-p.invariant.room;
        chained = c.loop-p.invariant.pending.grown.chained c.loop-p.invariant.room;
      };
      rising = rising-kept c.args.store c.args.area.now c.loop-p.area (λ i h. c.loop-p.invariant.pending.grown.kept i
          (omega (arith, c.requires.from_le_to.1))) c.requires.rising;
      p_lt_count = (
        omega (arith, c.loop-p-test.true, c.loop-p.invariant.pending.grown.more),
        omega (arith, c.requires.from_le_to.1, c.loop-p.invariant.pending.grown.more),
      );
    }

pub loop-p-preserved : goal.loop-p-preserved
loop-p-preserved c =
    let told = c.in_ok-all.ensures in
    record {
      room = told.0;
      pending = pending_next c.loop-p.invariant.pending c.loop-p.invariant.room
          (omega (arith, c.loop-p-test.true, c.loop-p.invariant.pending.grown.more))
          c.requires.from_le_to.1 told.1;
    }

pub returns-in_err-all : goal.returns-in_err-all
returns-in_err-all c =
    let next =
    pending_next c.loop-p.invariant.pending c.loop-p.invariant.room
    (omega (arith, c.loop-p-test.true, c.loop-p.invariant.pending.grown.more))
    c.requires.from_le_to.1 c.in_err-all.ensures in
    rw c.from_residual.ensures (pending_stop next (omega arith) c.requires.from_le_to.0 (omega (arith, c.loop-p-test.true)))

pub returns : goal.returns
returns c = (c.loop-p.invariant.room, pending_done c.loop-p.invariant.pending (omega (arith, c.requires.from_le_to.0)))
