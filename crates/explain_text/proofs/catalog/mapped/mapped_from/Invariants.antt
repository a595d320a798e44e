use Rattle.std.proofs.Common.{◌≡◌, drop}
use Rattle.boot_model.specs.PlanBoard.{roms_of}
use Rattle.explain_text.specs.Mapped.{mapped_from}
use Rattle.explain_text.proofs.catalog.mapped.mapped_from.Given as goal

-- what all volumes hold is what those to come hold, with the images that are left
abbrev pub invariant-volumes : goal.invariant-volumes
invariant-volumes l = mapped_from l.fn.address (roms_of l.volumes l.images) ≡ mapped_from l.fn.address (roms_of (drop l.entry-index l.volumes) l.left)
