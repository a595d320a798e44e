use Rattle.std.proofs.Common.{◌≡◌, ◌-◌, ◌≤◌, length}
use Rattle.store_model.specs.StoreState.{StoreState}
use Rattle.boot_trace.specs.HobLines.{all_hobs}
use Rattle.boot_trace.proofs.HobPlaces.{place_of}
use Rattle.boot_trace.proofs.store_hobs.count_hobs.Given as goal

-- the next HOB has the number that was counted
abbrev pub invariant-hobs : goal.invariant-hobs
invariant-hobs g l = (s : StoreState) → g.M.PeiStore.stands_for l.store s → (l.count ≤ length (all_hobs s)) × (l.next ≡ place_of (all_hobs s) l.count)

abbrev pub decreases-hobs : goal.decreases-hobs
decreases-hobs g l = 0x100000000 - l.count
