-- `relation::widen` copies the block into the front of the list of all blocks.
use Rattle.std.proofs.Common.{◌++◌, drop, sym, subst, ◌∙◌, arith, length-take-le}
use Rattle.relation.specs.Relation.{Widened}
use Rattle.relation.proofs.RelationLaws.{widened}
use Rattle.relation.proofs.widen.Goals as goal

pub slice_bounds-copy_from_slice-end-2 : goal.slice_bounds-copy_from_slice-end-2
slice_bounds-copy_from_slice-end-2 c = sym (length-take-le 1024 c.args.large.now (omega (arith, c.requires.large_len)))

pub copy_from_slice-requires : goal.copy_from_slice-requires
copy_from_slice-requires c =
    length-take-le 1024 c.args.large.now (omega (arith, c.requires.large_len)) ∙ sym c.requires.small_len

pub returns : goal.returns
returns c =
    subst (λ block. Widened c.args.small.now (block ++ drop 1024 c.args.large.now)) (sym c.copy_from_slice.ensures.after)
    (widened _ _ c.requires.small_len c.requires.unrelated)
