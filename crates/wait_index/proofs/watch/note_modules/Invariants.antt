use Rattle.std.proofs.Common.{◌≡◌, ◌+◌, ℕ, Some, length}
use Rattle.pi_base.specs.{declared.guid.Guid.Guid, GuidMap.value_of}
use Rattle.wait_index.specs.{Index.watchers_at, Watching.noted_from}
use Rattle.wait_index.proofs.watch.note_modules.Given as goal

abbrev pub invariant-modules : goal.invariant-modules
invariant-modules l = record {
  count : l.number + length l.rest ≡ length l.modules;
  as_many : length l.lists.items ≡ length l.fn.lists.items;
  lists : (guid : Guid) (slot : ℕ) → value_of l.slots guid ≡ Some slot
      → noted_from l.phase guid l.number (watchers_at l.lists.items slot) l.rest ≡ noted_from l.phase guid 0 (watchers_at l.fn.lists.items slot) l.modules;
}

abbrev pub decreases-modules : goal.decreases-modules
decreases-modules l = length l.rest
