-- `catalogue::lookup`: the part that the location names, which lies within its catalogue; else the empty one. Assumes nothing.
use Rattle.std.proofs.Common.{sym, ◌∙◌}
use Rattle.catalogue.proofs.LocationLaws.{location-within}
use Rattle.catalogue.proofs.ViewLaws.{handed_of, part-handed, within-layer}
use Rattle.catalogue.proofs.lookup.Goals as goal

pub part-requires : goal.part-requires
part-requires c =
    let f = sym c.locate.ensures ∙ c.in-Ok.is in
    within-layer c.args.overlay c.args.base c.in-Ok.f.layer c.catalogue_of.ensures
    (location-within c.args.overlay.now c.args.base.now c.args.number f)

pub returns-in-Ok : goal.returns-in-Ok
returns-in-Ok c =
    handed_of c.args.overlay c.args.base
    (part-handed c.args.overlay c.args.base c.in-Ok.f.layer c.in-Ok.f.start c.in-Ok.f.size c.catalogue_of.ensures c.part.ensures)
    c.in-Ok.is c.locate.ensures

pub returns-in-Err : goal.returns-in-Err
returns-in-Err c =
    handed_of c.args.overlay c.args.base c.part-in-Err.ensures c.in-Err.is c.locate.ensures
