use Rattle.std.proofs.Common.{◌≡◌, ℕ, Some, length, true, false}
use Rattle.pi_base.specs.{declared.guid.Guid.Guid, GuidMap.value_of}
use Rattle.wait_index.specs.Watching.{IsNumbering, modules_push}
use Rattle.wait_index.proofs.watch.Watch.number_modules.Given as goal

abbrev pub invariant-modules : goal.invariant-modules
invariant-modules l = record {
  numbering : IsNumbering l.self;
  kept : (guid : Guid) (slot : ℕ) → value_of l.fn.self.slots guid ≡ Some slot → value_of l.self.slots guid ≡ Some slot;
  covered : (guid : Guid) → modules_push l.phase guid l.modules ≡ true → modules_push l.phase guid l.rest ≡ false → (slot : ℕ) × (value_of l.self.slots guid ≡ Some slot);
}

abbrev pub decreases-modules : goal.decreases-modules
decreases-modules l = length l.rest
