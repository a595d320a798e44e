use Rattle.std.proofs.Common.{◌≡◌, ℕ, Some, length, true, false}
use Rattle.pi_base.specs.{declared.guid.Guid.Guid, GuidMap.value_of}
use Rattle.wait_index.specs.Watching.{IsNumbering, code_pushes}
use Rattle.wait_index.proofs.watch.Watch.number_code.Given as goal

abbrev pub invariant-opcodes : goal.invariant-opcodes
invariant-opcodes l = record {
  numbering : IsNumbering l.self;
  kept : (guid : Guid) (slot : ℕ) → value_of l.fn.self.slots guid ≡ Some slot → value_of l.self.slots guid ≡ Some slot;
  covered : (guid : Guid) → code_pushes guid l.code ≡ true → code_pushes guid l.rest ≡ false → (slot : ℕ) × (value_of l.self.slots guid ≡ Some slot);
}

abbrev pub decreases-opcodes : goal.decreases-opcodes
decreases-opcodes l = length l.rest
