-- Whether a GUID is installed, by the slot that it has; a GUID without a slot is asked for by no expression.
use Rattle.std.specs.Prelude.{◌≡◌, ◌<◌, ℕ, Bool, false, List, length, Option, Some, None}
use Rattle.pi_base.specs.{declared.guid.Guid.Guid, GuidMap.value_of}
use Rattle.wait_index.specs.{PlaceFlags.flag, declared.installed.Installed.Installed}

abbrev pub slot_says : List Bool → Option ℕ → Bool
slot_says there None = false
slot_says there (Some slot) = flag there slot

-- each slot is one of which it is known whether its GUID is installed
abbrev pub HasRoom : Installed → Type 0
HasRoom installed = (guid : Guid) (slot : ℕ) → value_of installed.slots guid ≡ Some slot → slot < length installed.there

abbrev pub is_there : Installed → Guid → Bool
is_there installed guid = slot_says installed.there (value_of installed.slots guid)
