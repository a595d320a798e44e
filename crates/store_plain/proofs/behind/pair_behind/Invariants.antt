use Rattle.std.proofs.Common.{◌≡◌, drop, map}
use Rattle.store_model.specs.{StoreState.StoreState, Service.Reading.behind_node, Service.Reading.pending_told}
use Rattle.store_plain.proofs.behind.pair_behind.Given as goal

abbrev pub invariant-pendings : goal.invariant-pendings
invariant-pendings l = (s : StoreState) → behind_node l.node (map (pending_told s) (drop l.place l.pendings)) ≡ behind_node l.node (map (pending_told s) l.pendings)
