use Rattle.mod_catalog.proofs.PlanVolumes.{well_formed}
use Rattle.mod_catalog.proofs.laws.catalogues_are_well_formed.Goals as goal

pub returns : goal.returns
returns c =
    let volumes = c.places.ensures in
    let sections = c.places-2.ensures in
    well_formed (record {
      some = volumes.some;
      within = volumes.within;
      len = volumes.len;
      inside = volumes.inside;
      in_order = volumes.in_order;
      sections_inside = sections.inside;
      sections_in_order = sections.in_order;
    })
