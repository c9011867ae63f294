-- `profile_search::header_of` reads the four numbers of a record.
use Rattle.profile_search.proofs.RecordLaws.{header_are}
use Rattle.profile_search.proofs.header_of.Goals as goal

pub returns : goal.returns
returns c =
    header_are c.args.store c.args.area.now c.args.p c.get2.ensures c.get2-2.ensures c.linked.ensures
    c.get2-3.ensures.0
