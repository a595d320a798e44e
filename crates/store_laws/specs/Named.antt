-- What an entry or a queued pair names: a descriptor of its list's kind, whose number is one of that kind.
-- Own.
use Rattle.std.specs.Prelude.{◌≡◌, ℕ, Some, slice_get}
use Rattle.store_model.specs.{declared.store_handle.Desc.Desc, declared.store_handle.DescKind.DescKind, declared.state.Entry.Entry}
use Rattle.store_model.specs.declared.store_handle.DescKind.TheVariants.{Ppi, Callback, Dispatch}
use Rattle.store_model.specs.{declared.state.Pending.Pending, StoreState.StoreState}
use Rattle.store_model.specs.StateFacts.{IsDesc, IsDescriptorAt, IsNumberOf, IsStoreState}
use Rattle.store_model.specs.Service.Descriptor.{kind_at, number_at}

-- the place of a descriptor of a kind
pub record IsNamed (s : StoreState) (kind : DescKind) (place : ℕ) : Type 0 where
  pub there : IsDescriptorAt s kind place
  pub kind_is : kind_at s place ≡ kind
  pub number_is : IsNumberOf kind (number_at s place)

pub record IsPairNamed (s : StoreState) (pending : Pending) : Type 0 where
  pub note : IsNamed s Dispatch pending.descriptor
  pub ppi : IsNamed s Ppi pending.ppi

pub record NamedAreThere : Type 0 where
  pub ppi : (s : StoreState) (place : ℕ) (entry : Entry) → IsStoreState s → slice_get s.ppis place ≡ Some entry
      → IsNamed s Ppi entry.descriptor
  pub callback : (s : StoreState) (place : ℕ) (entry : Entry) → IsStoreState s → slice_get s.callbacks place ≡ Some entry
      → IsNamed s Callback entry.descriptor
  pub dispatch : (s : StoreState) (place : ℕ) (entry : Entry) → IsStoreState s → slice_get s.dispatches place ≡ Some entry
      → IsNamed s Dispatch entry.descriptor
  pub pending : (s : StoreState) (place : ℕ) (pending : Pending) → IsStoreState s → slice_get s.pendings place ≡ Some pending
      → IsPairNamed s pending
  pub desc : (s : StoreState) (d : Desc) → IsStoreState s → IsDesc s d → IsNamed s (kind_at s d.offset) d.offset
