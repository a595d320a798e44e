-- The handles by protocol are those of the interfaces.
-- Own.
use Rattle.std.specs.Prelude.{◌≡◌, ℕ, List, filter, map}
use Rattle.pi_base.specs.{declared.guid.Guid.Guid, Guids.same_guid}
use Rattle.store_model.specs.declared.interface.Interface.{Interface}
use Rattle.guid_lists.specs.{declared.lists.GuidLists.GuidLists, Lists.list_of}

-- the handles of the interfaces of a protocol
abbrev pub handles_with : Guid → List Interface → List ℕ
handles_with guid interfaces = map (λ i. i.handle) (filter (λ i. same_guid i.guid guid) interfaces)

abbrev pub IsIndex : GuidLists → List Interface → Type 0
IsIndex holders interfaces = (guid : Guid) → list_of holders guid ≡ handles_with guid interfaces
