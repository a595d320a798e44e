use Rattle.std.proofs.Common.{◌≡◌, ◌+◌, ◌≤◌, drop, length}
use Rattle.store_model.specs.Service.Notify.{new_callbacks}
use Rattle.store_plain.specs.PlainState.{state_of}
use Rattle.store_plain.proofs.store.PlainStore.callbacks_in.Given as goal

abbrev pub invariant-descs : goal.invariant-descs
invariant-descs l = record {
  count : l.count + length (new_callbacks (state_of l.self) (drop l.d-index l.list)) ≡ length (new_callbacks (state_of l.self) l.list);
  few : l.count ≤ l.d-index;
}
