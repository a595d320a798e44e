use Rattle.std.proofs.Common.{◌≡◌, ℕ, Some, length}
use Rattle.pi_base.specs.{declared.guid.Guid.Guid, GuidMap.value_of}
use Rattle.wait_index.specs.{Index.watchers_at, Watching.noted_by}
use Rattle.wait_index.proofs.watch.note_code.Given as goal

abbrev pub invariant-opcodes : goal.invariant-opcodes
invariant-opcodes l = record {
  as_many : length l.lists.items ≡ length l.fn.lists.items;
  lists : (guid : Guid) (slot : ℕ) → value_of l.slots guid ≡ Some slot
      → noted_by guid l.number (watchers_at l.lists.items slot) l.rest ≡ noted_by guid l.number (watchers_at l.fn.lists.items slot) l.code;
}

abbrev pub decreases-opcodes : goal.decreases-opcodes
decreases-opcodes l = length l.rest
