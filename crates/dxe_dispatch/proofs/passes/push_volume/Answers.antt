use Rattle.mod_catalog.specs.declared.limits.TheConstants.{MOST_MODULES}
use Rattle.dxe_dispatch.proofs.PassLists.{parts_room}
use Rattle.dxe_dispatch.proofs.passes.push_volume.Goals as goal

pub push_all-requires-clause-room : goal.push_all-requires-clause-room
push_all-requires-clause-room c = parts_room c.args.catalog.now c.args.volume MOST_MODULES c.new-parts.result c.new-parts.ensures c.requires
