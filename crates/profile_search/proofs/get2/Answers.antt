-- `profile_search::get2` reads two bytes of a record, the low one first.
use Rattle.std.proofs.Common.{ap, ◌∙◌, ℕ, ◌+◌}
use Rattle.profile_search.specs.Stored.{two}
use Rattle.profile_search.proofs.get2.Goals as goal

pub returns : goal.returns
returns c = (
  c.number_at.ensures.0 ∙ ap (λ (at : ℕ). two c.args.area.now (at + c.args.offset)) c.record_start.ensures,
  c.number_at.ensures.1,
)
