-- `profile_search::known` looks for a profile among the records of its bucket, from the last one back by their links. The invariant: the
-- records behind the one that it has come to are other profiles, and that one is in the bucket.
use Rattle.triples.specs.Inner.{triples_in}
use Rattle.profile_search.specs.Stored.{link_of, profile_of}
use Rattle.profile_search.proofs.BucketLaws.{ChainPassed}
use Rattle.profile_search.proofs.known.Given as goal

abbrev pub invariant-loop-at : goal.invariant-loop-at
invariant-loop-at l = ChainPassed l.store l.area l.count (profile_of l.header (triples_in l.store.n l.t)) (link_of l.at)

abbrev pub decreases-loop-at : goal.decreases-loop-at
decreases-loop-at l = link_of l.at
