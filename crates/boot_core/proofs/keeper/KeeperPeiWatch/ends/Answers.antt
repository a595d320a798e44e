use Rattle.boot_core.proofs.HandedOn.{is_kept}
use Rattle.boot_core.proofs.keeper.KeeperPeiWatch.ends.Goals as goal

pub handed_by-requires : goal.handed_by-requires
handed_by-requires g c = record { state = (c.requires.state.0.store, c.store.ensures c.requires.state.0 c.requires.state.1, tt) }

pub returns-in-End : goal.returns-in-End
returns-in-End g c = record {
  knows_all = λ fuel earlier all m last known was left.
      is_kept g.M.PeiStore.stands_for c.args._catalog.now fuel earlier all m last c.args.reached.now c.args.pei.now c.args._queue.now _ c.store.result.now c.handed_by.result c.in-End.is was left c.store.ensures c.handed_by.ensures;
}
