-- `tableau::moved_by_both` puts in the moves under the one choice, then those under the other.
use Rattle.std.proofs.Common.{ap, sym, ◌∙◌}
use Rattle.tableau.specs.Inner.{with_bits}
use Rattle.tableau.specs.Fringe.{moves_at}
use Rattle.tableau.proofs.WordSets.{with_bits-append}
use Rattle.tableau.proofs.moved_by_both.Goals as goal

pub returns : goal.returns
returns c =
    c.moved-2.ensures ∙ ap (with_bits (moves_at c.args.rows.now c.args.upper c.args.s.0)) c.moved.ensures
    ∙ sym (with_bits-append (moves_at c.args.rows.now c.args.lower c.args.s.0) (moves_at c.args.rows.now c.args.upper c.args.s.0)
    c.args.set)
