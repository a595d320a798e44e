use Rattle.std.proofs.Common.{ap}
use Rattle.store_plain.specs.PlainState.{state_of}
use Rattle.store_plain.proofs.Renamed.{renamed_to}
use Rattle.store_plain.proofs.store.PlainStore.rename.Goals as goal

pub returns-clause-state : goal.returns-clause-state
returns-clause-state c old there =
    let s = state_of c.args.self.now in
    ap (λ ppis. record s { ppis = ppis }) (renamed_to s.ppis c.args.place old c.args.new.offset c.index_mut.result.now there c.requires c.index_mut.ensures.value)
