use Rattle.std.proofs.Common.{◌≡◌, ℕ, Some, take}
use Rattle.pi_base.specs.{declared.guid.Guid.Guid, GuidMap.value_of, Lists.EachPair}
use Rattle.wait_index.specs.Watching.{IsNumbering}
use Rattle.wait_index.proofs.watch.Watch.number_guids.Given as goal

abbrev pub invariant-guids : goal.invariant-guids
invariant-guids l = record {
  numbering : IsNumbering l.self;
  kept : (guid : Guid) (slot : ℕ) → value_of l.fn.self.slots guid ≡ Some slot → value_of l.self.slots guid ≡ Some slot;
  slots : EachPair (λ guid slot. value_of l.self.slots guid ≡ Some slot) (take l.guid-index l.guids) l.slots;
}
