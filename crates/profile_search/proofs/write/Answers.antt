-- `profile_search::write` writes a record: its triples, and then its four numbers, each where no earlier one stands.
use Rattle.std.proofs.Common.{◌∙◌}
use Rattle.profile_search.specs.Stored.{record_start}
use Rattle.profile_search.proofs.RecordLaws.{written, written-changed}
use Rattle.profile_search.proofs.write.Goals as goal

pub returns : goal.returns
returns c =
    let at = record_start c.args.store c.args.p in
    record {
      p_after = written c.args.t.now at c.args.header c.record_start.ensures c.store_triples.ensures.bytes_between
          c.put2.ensures.bytes_between c.put2-2.ensures.bytes_between c.put2-3.ensures.bytes_between c.put2-4.ensures.bytes_between
          c.store_triples.ensures.by_index c.put2.ensures.offset_after c.put2-2.ensures.offset_after
          (c.put2-3.ensures.offset_after ∙ c.link.ensures)
          (c.put2-4.ensures.offset_after ∙ c.from.ensures)
          c.args.store.n c.args.store.next;
      bytes_between = written-changed c.args.t.now at c.args.header c.record_start.ensures c.store_triples.ensures.bytes_between
          c.put2.ensures.bytes_between c.put2-2.ensures.bytes_between c.put2-3.ensures.bytes_between c.put2-4.ensures.bytes_between;
    }
