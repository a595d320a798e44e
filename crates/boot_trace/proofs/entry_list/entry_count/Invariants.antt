use Rattle.std.proofs.Common.{◌-◌}
use Rattle.store_model.specs.StoreState.{StoreState}
use Rattle.boot_trace.proofs.EntryPlaces.{IsAt}
use Rattle.boot_trace.proofs.entry_list.entry_count.Given as goal

-- as many were counted as stand before what is left
abbrev pub invariant-entries : goal.invariant-entries
invariant-entries g l = (s : StoreState) → g.M.PeiStore.stands_for l.store s → IsAt s l.list l.node l.count

abbrev pub decreases-entries : goal.decreases-entries
decreases-entries g l = 0x100000000 - l.count
