use Rattle.boot_core.proofs.{Examined.refused_by, SomeVolume.some_volume}
use Rattle.boot_core.proofs.images.examine.Goals as goal

pub returns-in-Ok-clause-found : goal.returns-in-Ok-clause-found
returns-in-Ok-clause-found c =
    let plan = c.args.plan.now in
    let images = c.args.images.now in
    let found = c.in-Ok.ensures.found in
    record {
      sound = found;
      well_formed = c.catalogues_are_well_formed.ensures plan images c.in-Ok.catalog found;
      some_volume = some_volume plan images c.in-Ok.catalog found c.requires.in_range.some_volume;
      board = c.boards_are_sound.ensures plan images c.in-Ok.catalog c.requires.in_range found;
    }

pub returns-in-Err-clause-refused : goal.returns-in-Err-clause-refused
returns-in-Err-clause-refused c = refused_by c.args.plan.now c.args.images.now c.in-Err.fault c.refusal_of.result c.in-Err.ensures.refused c.refusal_of.ensures
