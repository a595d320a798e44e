-- The GUIDs of the PPIs that an action of PEI changed.
-- PI 1.8, volume 1, `InstallPpi()` and `ReInstallPpi()`.
use Rattle.std.specs.Prelude.{◌≡◌, List, [], ◌∷◌, map, Some, None}
use Rattle.pi_base.specs.declared.guid.Guid.{Guid}
use Rattle.act_code.specs.declared.action.Action.{Action}
use Rattle.store_model.specs.{declared.store_handle.Desc.Desc, StoreState.StoreState}
use Rattle.store_model.specs.Service.Descriptor.{guid_at, offsets}
use Rattle.boot_model.specs.{EventGuids.placed_guids, EventGuids.taken_guid, PeiMachine.Frame}
use Rattle.pei_core.specs.declared.guids.Changes.{Changes}

-- no GUID was installed or removed
abbrev pub no_changes : Changes
no_changes = record { there = record { items = [] }; gone = None }

-- one was installed
abbrev pub one_installed : Guid → Changes
one_installed guid = record { there = record { items = guid ∷ [] }; gone = None }

-- those of these descriptors were installed
abbrev pub ArePut : StoreState → List Desc → Changes → Type 0
ArePut s list changes = changes ≡ record { there = record { items = map (guid_at s) (offsets list) }; gone = None }

-- the one of a descriptor was installed, and that of another was taken away
abbrev pub AreReplaced : Desc → Desc → Changes → StoreState → Type 0
AreReplaced old new changes s = changes ≡ record { there = record { items = guid_at s new.offset ∷ [] }; gone = Some (guid_at s old.offset) }

-- those of an action, from the state before it: the GUIDs that it adds and the one that it removes, if it succeeds
pub record AreChangesOf (s : StoreState) (frame : Frame) (action : Action) (changes : Changes) : Type 0 where
  pub there : changes.there.items ≡ placed_guids s frame action
  pub gone : changes.gone ≡ taken_guid s frame action
