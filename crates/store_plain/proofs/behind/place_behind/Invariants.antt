use Rattle.std.proofs.Common.{◌≡◌, drop, map}
use Rattle.store_model.specs.{StoreState.StoreState, Service.Reading.behind_node, Service.Reading.entry_told}
use Rattle.store_plain.proofs.behind.place_behind.Given as goal

abbrev pub invariant-entries : goal.invariant-entries
invariant-entries l = (s : StoreState) → behind_node l.node (map (entry_told s) (drop l.place l.entries)) ≡ behind_node l.node (map (entry_told s) l.entries)
