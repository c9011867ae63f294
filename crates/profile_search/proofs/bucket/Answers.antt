-- `profile_search::bucket` hashes a profile: its two nodes, and then its triples row by row. The invariant: the first f rows are in the
-- hash.
use Rattle.std.proofs.Common.{◌≡◌, ℕ, ◌+◌, ◌*◌, ◌/◌, map, refl, ap, ◌∙◌, arith, mod-lt}
use mathlib.Core.List.{foldl}
use Rattle.base.specs.Lists.{range}
use Rattle.profile_search.specs.Stored.{row_of, mixed_row}
use Rattle.profile_search.proofs.BucketLaws.{fold_more, bucket_is}
use Rattle.profile_search.proofs.bucket.Goals as goal

pub loop-f-init : goal.loop-f-init
loop-f-init c = record { small = omega arith; hash = refl }

pub loop-f-preserved : goal.loop-f-preserved
loop-f-preserved c =
    record {
      small = c.mix_row-h.ensures.0;
      hash = fold_more mixed_row _ (row_of c.args.t.now c.args.store.n) c.loop-f.f c.loop-f.invariant.hash c.mix_row-h.ensures.1;
    }

pub returns : goal.returns
returns c =
    let nodes = c.args.header.first.0 + c.args.header.last.0 * 65536 in
    let hashed : ℕ → ℕ = λ k. foldl mixed_row nodes (map (row_of c.args.t.now c.args.store.n) (range 0 k)) in
    let all : c.loop-f.f ≡ c.args.store.n = omega arith in (
      bucket_is c.args.store c.args.header c.args.t.now c.loop-f.h (c.loop-f.invariant.hash ∙ ap hashed all),
      mod-lt (c.loop-f.h / 65536) c.args.store.some,
    )
