use Rattle.std.proofs.Common.{◌≡◌, ◌++◌, drop}
use Rattle.store_model.specs.Service.Notify.{new_dispatches}
use Rattle.store_plain.specs.PlainState.{state_of}
use Rattle.store_plain.proofs.store.PlainStore.dispatches_of.Given as goal

abbrev pub invariant-descs : goal.invariant-descs
invariant-descs l = l.places.items ++ new_dispatches (state_of l.self) (drop l.d-index l.list) ≡ new_dispatches (state_of l.self) l.list
