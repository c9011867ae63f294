-- `yuktrob_c::yuktrob_lookup`: the location becomes its number, its place and its size. Assumes nothing.
use Rattle.std.proofs.Common.{ap, ◌∙◌}
use Rattle.catalogue.specs.Contract.{place_told, size_told}
use Rattle.yuktrob_c.specs.Numbers.{location_number}
use Rattle.yuktrob_c.proofs.yuktrob_lookup.Goals as goal

pub returns : goal.returns
returns c =
    record {
      numbered = c.location_number.ensures ∙ ap location_number c.locate-l.ensures;
      placed = c.place_of.ensures ∙ ap place_told c.locate-l.ensures;
      measured = c.size_of.ensures ∙ ap size_told c.locate-l.ensures;
    }
