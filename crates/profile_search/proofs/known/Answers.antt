-- `profile_search::known` looks for a profile among the records of its bucket, from the last one back by their links. The invariant: the
-- records behind the one that it has come to are other profiles, and that one is in the bucket.
use Rattle.std.proofs.Common.{ℕ, Option, ◌+◌, sym, ap, subst, ◌∙◌, arith}
use Rattle.triples.specs.Inner.{triples_in}
use Rattle.profile_search.specs.Stored.{link_of, profile_of}
use Rattle.profile_search.proofs.GrowLaws.{seen-found}
use Rattle.profile_search.proofs.BucketLaws.{ChainPassed, passed_start, passed-less, passed-more, passed-all}
use Rattle.profile_search.proofs.known.Goals as goal
use Rattle.profile_search.proofs.known.Goals.{In-Some}

-- the invariant at the record that the search has come to
here : (c : In-Some)
    → ChainPassed c.args.store c.args.area.now c.args.count (profile_of c.args.header (triples_in c.args.store.n c.args.t.now))
    (c.in-Some.p + 1)
here c =
    subst
    (λ (o : Option ℕ). ChainPassed c.args.store c.args.area.now c.args.count
    (profile_of c.args.header (triples_in c.args.store.n c.args.t.now)) (link_of o))
    c.in-Some.is c.loop-at.invariant

pub loop-at-init : goal.loop-at-init
loop-at-init c = passed_start c.requires.store_chained.chained _ c.requires.k_value c.head-at.ensures

pub returns-then-same_profile : goal.returns-then-same_profile
returns-then-same_profile c =
    sym (seen-found c.args.store c.args.area.now _ c.args.count c.in-Some.p
    (let w = here (goal.at.returns-then-same_profile c).In-Some in omega (arith, w.among))
    (sym c.same_profile.ensures ∙ c.if-same_profile.true))

pub loop-at-smaller : goal.loop-at-smaller
loop-at-smaller c =
    let w = here (goal.at.loop-at-smaller c).In-Some in
    omega (arith, passed-less c.requires.store_chained.chained _ c.in-Some.p w c.linked-at.ensures.0, ap link_of c.in-Some.is)

pub loop-at-preserved : goal.loop-at-preserved
loop-at-preserved c =
    passed-more c.requires.store_chained.chained _ c.in-Some.p (here (goal.at.loop-at-preserved c).In-Some) c.linked-at.ensures.0
    (sym c.same_profile.ensures ∙ c.if-same_profile.false)

pub returns : goal.returns
returns c =
    sym (passed-all c.requires.store_chained.chained _ c.loop-at.invariant (omega (arith, ap link_of c.in_default.is)))
