-- `profile_search::same_profile` compares a record's nodes, and then its triples.
use Rattle.std.proofs.Common.{sym, ap, ◌∙◌}
use Rattle.profile_tables.specs.Triples.{Triples, same_triples}
use Rattle.triples.specs.Inner.{triples_in}
use Rattle.profile_search.specs.Stored.{record_of}
use Rattle.profile_search.proofs.RecordLaws.{triple_set-at, other_first, other_last, same_header}
use Rattle.profile_search.proofs.same_profile.Goals as goal

pub returns-then-e-header : goal.returns-then-e-header
returns-then-e-header c =
    other_first (record_of c.args.store c.args.area.now c.args.p).at c.args.header _
    (λ e. c.if-e-header.true (c.header_of-e.ensures.first ∙ e))

pub returns-then-e-header-2 : goal.returns-then-e-header-2
returns-then-e-header-2 c =
    other_last (record_of c.args.store c.args.area.now c.args.p).at c.args.header _ (sym c.header_of-e.ensures.first ∙ c.if-e-header.false)
    (λ e. c.if-e-header-2.true (c.header_of-e.ensures.last ∙ e))

pub returns : goal.returns
returns c =
    c.same_triples.ensures ∙ ap (λ (y : Triples). same_triples y (triples_in c.args.store.n c.args.t.now))
    (triple_set-at c.args.store c.args.area.now c.args.p c.record_start.ensures) ∙ same_header
    (record_of c.args.store c.args.area.now c.args.p).at c.args.header _ (sym c.header_of-e.ensures.first ∙ c.if-e-header.false)
    (sym c.header_of-e.ensures.last ∙ c.if-e-header-2.false)
