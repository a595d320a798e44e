-- The answers about a state are those of its image, if its numbers fit.
-- Own.
use Rattle.std.specs.Prelude.{◌≡◌, ℕ, map, filter, option_map, slice_get}
use Rattle.std.specs.List.{list_any}
use Rattle.pi_base.specs.{declared.guid.Guid.Guid, Guids.same_guid}
use Rattle.store_model.specs.declared.store_handle.DescKind.TheVariants.{Callback, Dispatch}
use Rattle.store_model.specs.{StoreState.StoreState, StateFacts.IsStoreState, HeapImage.heap_image, Service.Install.has_ppi}
use Rattle.store_model.specs.Service.Reading.{nth_ppi, ppi_at, note_at, pending_at}
use Rattle.store_model.specs.declared.store_handle.EntryList.{EntryList}
use Rattle.store_model.specs.declared.store_handle.EntryList.TheVariants.{Ppis, Callbacks, Dispatches, Pendings}
use Rattle.store_laws.specs.Items.{items, first_address}
use Rattle.store_laws.specs.Told.{queue_told, image_told, entry_said}

abbrev pub ListsAreTold : Type 0
ListsAreTold = (s : StoreState) → IsStoreState s
    → (image_told s Ppis ≡ map (entry_said s) s.ppis) × (image_told s Callbacks ≡ map (entry_said s) s.callbacks)
    × (image_told s Dispatches ≡ map (entry_said s) s.dispatches)

abbrev pub PpiIsTold : Type 0
PpiIsTold = (s : StoreState) (place : ℕ) → IsStoreState s
    → ppi_at s place ≡ option_map (λ told. (told.guid, told.number, told.by)) (slice_get (image_told s Ppis) place)

abbrev pub NthIsTold : Type 0
NthIsTold = (s : StoreState) (guid : Guid) (n : ℕ) → IsStoreState s
    → nth_ppi s guid n
    ≡ option_map (λ told. (record { offset = told.place }, told.number)) (slice_get (filter (λ told. same_guid told.guid guid) (image_told s Ppis)) n)

abbrev pub HasIsTold : Type 0
HasIsTold = (s : StoreState) (guid : Guid) → IsStoreState s
    → has_ppi s guid ≡ list_any (λ told. same_guid told.guid guid) (image_told s Ppis)

abbrev pub CallbackIsTold : Type 0
CallbackIsTold = (s : StoreState) (place : ℕ) → IsStoreState s
    → note_at s Callback place ≡ option_map (λ told. (told.guid, told.number)) (slice_get (image_told s Callbacks) place)

abbrev pub DispatchIsTold : Type 0
DispatchIsTold = (s : StoreState) (place : ℕ) → IsStoreState s
    → note_at s Dispatch place ≡ option_map (λ told. (told.guid, told.number)) (slice_get (image_told s Dispatches) place)

abbrev pub PendingIsTold : Type 0
PendingIsTold = (s : StoreState) (place : ℕ) → IsStoreState s
    → pending_at s place ≡ slice_get (queue_told s.board.roms (heap_image s) s.base (first_address s.base (items s Pendings))) place

-- two states with one image, one base, the same volumes and the same first nodes
pub record LookAlike (s t : StoreState) : Type 0 where
  pub image : heap_image s ≡ heap_image t
  pub base : s.base ≡ t.base
  pub roms : s.board.roms ≡ t.board.roms
  pub heads : (list : EntryList) → first_address s.base (items s list) ≡ first_address t.base (items t list)

-- have the same answers
pub record HaveSameAnswers (s t : StoreState) : Type 0 where
  pub ppi : (place : ℕ) → ppi_at s place ≡ ppi_at t place
  pub nth : (guid : Guid) (n : ℕ) → nth_ppi s guid n ≡ nth_ppi t guid n
  pub has : (guid : Guid) → has_ppi s guid ≡ has_ppi t guid
  pub callback : (place : ℕ) → note_at s Callback place ≡ note_at t Callback place
  pub dispatch : (place : ℕ) → note_at s Dispatch place ≡ note_at t Dispatch place
  pub pending : (place : ℕ) → pending_at s place ≡ pending_at t place

abbrev pub ImagesTellAll : Type 0
ImagesTellAll = (s t : StoreState) → IsStoreState s → IsStoreState t → LookAlike s t → HaveSameAnswers s t
