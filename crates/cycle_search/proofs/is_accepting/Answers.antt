-- `cycle_search::is_accepting` compares the profile's nodes and asks whether its triples are rejecting.
use Rattle.std.proofs.Common.{ap, ◌∙◌}
use Rattle.base.specs.Bits.{bit}
use Rattle.profile_tables.specs.Triples.{Triples, rejecting}
use Rattle.profile_search.specs.Stored.{record_of}
use Rattle.profile_search.proofs.RecordLaws.{triple_set-at}
use Rattle.cycle_search.proofs.AcceptingLaws.{accepts_open, accepts-closed}
use Rattle.cycle_search.proofs.is_accepting.Goals as goal

pub returns-then-e : goal.returns-then-e
returns-then-e c =
    accepts-closed (bit c.args.mask) c.args.store.n (record_of c.args.store c.args.area.now c.args.p) c.header_of-e.ensures.first
    c.header_of-e.ensures.last c.if-e.true
    (c.is_rejecting.ensures ∙ ap (λ (y : Triples). rejecting (bit c.args.mask) c.args.store.n y)
    (triple_set-at c.args.store c.args.area.now c.args.p c.record_start.ensures))

pub returns-else-e : goal.returns-else-e
returns-else-e c =
    accepts_open (bit c.args.mask) c.args.store.n (record_of c.args.store c.args.area.now c.args.p) c.header_of-e.ensures.first
    c.header_of-e.ensures.last c.if-e.false
