-- `profile_search::add` adds one profile: it is known, or there is room for it, or there is none. Its record is written first, so that the
-- chain is told of a record that stands.
use Rattle.std.proofs.Common.{ℕ, ◌+◌, [], ◌∷◌, sym, ap, subst, ◌∙◌, arith}
use Rattle.profile_tables.specs.Runs.{FoundProfile}
use Rattle.triples.specs.Inner.{triples_in}
use Rattle.profile_search.specs.Stored.{found_of, StoreFits, ProfilesAdded, bucket_of}
use Rattle.profile_search.proofs.GrowLaws.{grown-known, grown_new, grown-full}
use Rattle.profile_search.proofs.BucketLaws.{chained-kept}
use Rattle.profile_search.proofs.add.Goals as goal

pub returns-then-known : goal.returns-then-known
returns-then-known c = (
  c.requires.store_chained.room,
  grown-known c.args.store c.args.count c.args.area.now c.requires.store_chained.room c.requires.store_chained.chained
      (found_of c.args.header (triples_in c.args.store.n c.args.t.now)) (sym c.if-known.true ∙ c.known.ensures),
)

pub chain-requires : goal.chain-requires
chain-requires c =
    record {
      store_chained = record {
        fits = subst (StoreFits c.args.store) (sym c.write.ensures.bytes_between.same_length) c.requires.store_chained.fits;
        room = c.requires.store_chained.room;
        chained = chained-kept c.args.store.next c.write.ensures.bytes_between c.requires.store_chained.chained;
      };
      count_lt_capacity = (omega arith, c.bucket-k.ensures.1);
      k_value = c.bucket-k.ensures.0 ∙ ap (λ (y : FoundProfile). bucket_of c.args.store y.at) (sym c.write.ensures.p_after);
    }

pub returns-then-store-count : goal.returns-then-store-count
returns-then-store-count c =
    subst (λ (n : ℕ). ProfilesAdded c.args.store c.args.count c.args.area.now (n + 1) c.args.area.now
    (found_of c.args.header (triples_in c.args.store.n c.args.t.now) ∷ []))
    {x = c.args.count} {y = c.args.store.capacity} (omega (arith, c.requires.store_chained.room))
    (grown-full c.args.store c.args.count c.args.area.now c.requires.store_chained.room c.requires.store_chained.chained
    (found_of c.args.header (triples_in c.args.store.n c.args.t.now)) (sym c.if-known.false ∙ c.known.ensures) c.if-store-count.true)

pub returns : goal.returns
returns c = (
  omega arith,
  grown_new c.args.store c.args.count c.args.area.now c.requires.store_chained.room c.requires.store_chained.chained
      (found_of c.args.header (triples_in c.args.store.n c.args.t.now)) c.args.store.next
      (sym c.if-known.false ∙ c.known.ensures) (omega arith)
      c.write.ensures.p_after c.write.ensures.bytes_between c.chain.ensures.chained c.chain.ensures.by_index c.chain.ensures.bytes_between,
)
