-- `Tableau::core_of` is what every saturation of the node has in common, what it gathers, and whether that fails.
use Rattle.std.proofs.Common.{refl, sym, ◌∙◌}
use Rattle.tableau.proofs.CoreLaws.{closing_rest, core_dead}
use Rattle.tableau.proofs.formed.Tableau.core_of.Goals as goal

pub returns : goal.returns
returns c =
    let grows = closing_rest c.closed-c.ensures.closing_of c.closed-c.ensures.fringe_value in (
      record {
        grows = grows;
        requires = c.required_by-gathered.ensures;
        dead_end = λ e.
            core_dead grows c.required_by-gathered.ensures (sym c.is_dead_end.ensures ∙ e);
      },
      refl,
    )
