use Rattle.std.proofs.Common.{◌≡◌, ◌≤◌, length, ℕ, ◌<◌, false, get_or}
use Rattle.pi_base.specs.Guids.{same_guid}
use Rattle.dxe_core.proofs.Reading.{blank}
use Rattle.dxe_core.proofs.database.places.place_in.Given as goal

-- no interface before the place is of the protocol
abbrev pub invariant-loop-place : goal.invariant-loop-place
invariant-loop-place l = record {
  end : l.place-end ≤ length l.interfaces;
  before : (k : ℕ) → l.fn.stretch.begin ≤ k → k < l.place → same_guid (get_or l.interfaces k blank).guid l.guid ≡ false;
}
