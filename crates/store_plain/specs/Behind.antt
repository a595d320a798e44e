-- What entries and queued pairs name is there.
-- Own.
use Rattle.std.specs.Prelude.{◌≡◌, true, is_some}
use Rattle.store_model.specs.{declared.state.Entry.Entry, declared.state.Pending.Pending, StoreState.StoreState}
use Rattle.store_model.specs.Service.Descriptor.{descriptor_at}

-- an entry names a descriptor
abbrev pub IsNamed : StoreState → Entry → Type 0
IsNamed s entry = is_some (descriptor_at s entry.descriptor) ≡ true

-- the PPI of a queued pair is a descriptor
abbrev pub IsPpiNamed : StoreState → Pending → Type 0
IsPpiNamed s pending = is_some (descriptor_at s pending.ppi) ≡ true
