-- `profile_search::mix` takes one byte more into a row's sum. The byte is the number that its eight bits make.
use Rattle.std.proofs.Common.{sym, ap, ◌∙◌, ℕ, ◌+◌, ◌*◌, arith}
use Rattle.profile_search.proofs.SingleLaws.{subset_word}
use Rattle.profile_search.proofs.mix.Goals as goal

pub returns : goal.returns
returns c =
    ap (λ (w : ℕ). c.args.sum * 8 + w) (c.from.ensures ∙ sym (subset_word 8 c.args.x (omega arith)))
