-- `profile_search::longer` adds one profile followed by one of one transition: none where the first does not end where the second begins.
use Rattle.profile_search.proofs.TurnLaws.{longer-none, longer-one}
use Rattle.std.proofs.Common.{arith}
use Rattle.profile_search.proofs.longer.Goals as goal

pub returns-then-a-b : goal.returns-then-a-b
returns-then-a-b c = (
  c.requires.store_chained.room,
  longer-none c.args.store c.args.count c.args.area.now c.args.p c.args.q c.header_of-a.ensures c.header_of-b.ensures
      c.requires.store_chained.room
      c.requires.store_chained.chained c.if-a-b.true,
)

pub record_start-requires-2 : goal.record_start-requires-2
record_start-requires-2 c =
    omega (arith, c.args.store.few, c.requires.store_chained.room, c.requires.p_lt_count.1)

pub copied-y-requires : goal.copied-y-requires
copied-y-requires c =
    omega (arith, c.record_start-2.ensures, c.requires.store_chained.fits, c.requires.store_chained.room, c.requires.p_lt_count.1)

pub joined-t-requires : goal.joined-t-requires
joined-t-requires c =
    c.args.store.next

pub add-requires : goal.add-requires
add-requires c =
    record {
      store_chained = c.requires.store_chained;
      header_fits = record {
        first = c.header_of-a.ensures.small.first;
        last = c.header_of-b.ensures.small.last;
        parent = omega (arith, c.args.store.few, c.requires.store_chained.room, c.requires.p_lt_count.0);
      };
    }

pub returns : goal.returns
returns c =
    longer-one c.args.store c.args.count c.args.area.now c.args.p c.args.q c.header_of-a.ensures c.header_of-b.ensures c.add.result
    c.add.new.area c.copied-x.result
    c.copied-y.result c.joined-t.result c.args.store.next c.if-a-b.false c.record_start.ensures c.record_start-2.ensures
    c.copied-x.ensures
    c.copied-y.ensures c.joined-t.ensures c.add.ensures
