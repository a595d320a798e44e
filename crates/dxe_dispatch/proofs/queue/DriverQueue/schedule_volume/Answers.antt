use Rattle.mod_catalog.specs.declared.limits.TheConstants.{MOST_MODULES}
use Rattle.dxe_dispatch.proofs.Scheduling.{ranked_numbers, ranked_room}
use Rattle.dxe_dispatch.proofs.queue.DriverQueue.schedule_volume.Goals as goal

pub push_ranked-requires-clause-room : goal.push_ranked-requires-clause-room
push_ranked-requires-clause-room c = ranked_room c.args.catalog.now c.args.volume MOST_MODULES c.new-parts.result c.new-parts.ensures c.requires.catalog.few_modules

pub schedule_ranked-requires : goal.schedule_ranked-requires
schedule_ranked-requires c = record {
  numbers = ranked_numbers c.args.catalog.now c.args.volume c.args.self.now c.new-parts.result c.push_ranked.new.self c.as_slice.result.now c.new-parts.ensures c.push_ranked.ensures c.as_slice.ensures c.requires.flags;
}
