-- The descriptors of a list that belong into one of the three lists.
-- Own.
use Rattle.std.specs.Prelude.{ℕ, Bool, true, not, List, filter}
use Rattle.store_model.specs.{declared.store_handle.Desc.Desc, StoreState.StoreState}
use Rattle.store_model.specs.Service.Descriptor.{is_callback, kind_at, offsets}
use Rattle.mem_store.specs.declared.index.Which.{Which}
use Rattle.mem_store.specs.declared.index.Which.TheVariants.{All, Callbacks, Others}

-- whether one belongs there that is a callback, or that is none
abbrev pub is_picked : Which → Bool → Bool
is_picked All callback = true
is_picked Callbacks callback = callback
is_picked Others callback = not callback

-- the places of those that do
abbrev pub picked_of : Which → StoreState → List Desc → List ℕ
picked_of All s list = offsets list
picked_of Callbacks s list = filter (λ place. is_callback (kind_at s place)) (offsets list)
picked_of Others s list = filter (λ place. not (is_callback (kind_at s place))) (offsets list)
