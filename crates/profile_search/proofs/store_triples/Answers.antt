-- `profile_search::store_triples` copies 144 bytes. The invariant: those passed are copied, and no other has changed.
use Rattle.std.proofs.Common.{arith}
use Rattle.profile_search.proofs.RecordLaws.{changed-none, changed_set, store_triples_more}
use Rattle.profile_search.proofs.store_triples.Goals as goal

pub loop-i-init : goal.loop-i-init
loop-i-init c = (λ j h. absurd (omega arith), changed-none _ _ _)

pub loop-i-preserved : goal.loop-i-preserved
loop-i-preserved c = (
  store_triples_more c.loop-i.area c.args.t.now c.args.at c.loop-i.i (omega (arith, c.requires, c.loop-i.invariant.1.same_length))
      c.loop-i.invariant.0,
  changed_set c.loop-i.invariant.1 _ _ (omega arith) (omega arith),
)
