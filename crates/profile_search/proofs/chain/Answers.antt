-- `profile_search::chain` puts a record at the head of the chain of its bucket, by three stores into spare bytes.
use Rattle.std.proofs.Common.{◌∙◌}
use Rattle.profile_search.proofs.BucketLaws.{linked-changed, linked-records, chained_more}
use Rattle.profile_search.proofs.chain.Goals as goal

pub returns : goal.returns
returns c =
    record {
      chained = chained_more c.args.store c.args.count c.args.k c.put2.ensures.bytes_between c.put2-2.ensures.bytes_between
          c.put2-3.ensures.bytes_between c.put2.ensures.offset_after (c.put2-2.ensures.offset_after ∙ c.link-before.ensures)
          c.put2-3.ensures.offset_after
          c.args.store.next
          c.requires.store_chained.chained c.head.ensures c.requires.k_value;
      by_index = linked-records c.args.store c.args.count c.args.k c.put2.ensures.bytes_between c.put2-2.ensures.bytes_between
          c.put2-3.ensures.bytes_between c.args.store.next;
      bytes_between = linked-changed c.args.store c.args.count c.args.k c.put2.ensures.bytes_between c.put2-2.ensures.bytes_between
          c.put2-3.ensures.bytes_between c.requires.count_lt_capacity.0 c.requires.count_lt_capacity.1;
    }
