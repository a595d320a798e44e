-- The move to permanent memory changes no PPI, notification or other HOB.
-- The lists stay: each entry keeps its node, its descriptor and its maker. A PPI keeps its GUID, and a notification its GUID and its entry.
-- A PPI's value is the same place of what was moved, or the same number.
-- Each HOB keeps its type, its length and so its place. A body that is no descriptor stays.
-- A descriptor that is named stays one, and one that nothing names becomes the bytes that it spelled.
-- PI 1.8, volume 1, "Installing PEI Memory" and `EFI_PEI_TEMPORARY_RAM_SUPPORT_PPI`; which numbers are shifted is own.
use Rattle.std.specs.Prelude.{◌≡◌, ℕ, ◌+◌, ◌<◌, ◌≤◌, Bool, true, false, ◌++◌, map, Option, Some, None}
use Rattle.pi_base.specs.Lists.{Each}
use Rattle.store_model.specs.{declared.store_handle.DescKind.DescKind, declared.state.Body.Body}
use Rattle.store_model.specs.declared.store_handle.DescKind.TheVariants.{Ppi, Callback, Dispatch}
use Rattle.store_model.specs.declared.state.Body.TheVariants.{Bytes, Descriptor, Node, Allocation}
use Rattle.store_model.specs.{declared.state.DescriptorBody.DescriptorBody, declared.state.Pending.Pending, HeapImage.descriptor_bytes}
use Rattle.store_model.specs.StoreState.{StoreState, hob_len, body_at}
use Rattle.store_model.specs.Service.Descriptor.{guid_at, number_at, is_named}

-- an address in the heap is as far from the new base as from the old, and one in the page region as far from the pages' end;
-- a number that is no address in temporary RAM stays
pub record IsSamePlace (old new : StoreState) (number later : ℕ) : Type 0 where
  pub heap : (offset : ℕ) → offset < old.len → number ≡ old.base + offset → later ≡ new.base + offset
  pub pages : (distance : ℕ) → 0 < distance → distance ≤ old.board.pages → number + distance ≡ old.page_end
      → later + distance ≡ new.page_end
  pub below : number < old.board.temp.base → later ≡ number
  pub above : old.board.temp.base + old.board.temp.len ≤ number → later ≡ number

-- the PPI whose descriptor is at a place keeps its GUID, and its value is the same place
pub record KeepsPpi (old new : StoreState) (place : ℕ) : Type 0 where
  pub guid : guid_at new place ≡ guid_at old place
  pub value : IsSamePlace old new (number_at old place) (number_at new place)

-- the notification whose descriptor is at a place keeps its GUID and its entry
pub record KeepsNotification (old new : StoreState) (place : ℕ) : Type 0 where
  pub guid : guid_at new place ≡ guid_at old place
  pub entry : number_at new place ≡ number_at old place

-- a queued pair keeps its notification and its PPI
pub record KeepsPending (old new : StoreState) (pending : Pending) : Type 0 where
  pub notification : KeepsNotification old new pending.descriptor
  pub ppi : KeepsPpi old new pending.ppi

-- the number of a descriptor: a PPI's value, or a notification's entry
abbrev pub KeepsNumber : StoreState → StoreState → DescKind → ℕ → ℕ → Type 0
KeepsNumber old new Ppi number later = IsSamePlace old new number later
KeepsNumber old new Callback number later = later ≡ number
KeepsNumber old new Dispatch number later = later ≡ number

-- a descriptor keeps its kind, its GUID, the GUID's address if that is in a volume, and its number
pub record KeepsDescriptor (old new : StoreState) (d e : DescriptorBody) : Type 0 where
  pub kind : e.kind ≡ d.kind
  pub guid : e.guid ≡ d.guid
  pub stands : e.stands ≡ d.stands
  pub number : KeepsNumber old new d.kind d.number e.number

-- a descriptor, by whether it is named
abbrev pub KeepsNamed : Bool → StoreState → StoreState → ℕ → DescriptorBody → Body → Type 0
KeepsNamed true old new place d later = (e : DescriptorBody) × (later ≡ Descriptor e) × KeepsDescriptor old new d e
KeepsNamed false old new place d later = later ≡ Bytes (descriptor_bytes old.base place d)

-- the body at a place, and the body there now
abbrev pub KeepsBody : StoreState → StoreState → ℕ → Body → Body → Type 0
KeepsBody old new place (Bytes bytes) later = later ≡ Bytes bytes
KeepsBody old new place Node later = later ≡ Node
KeepsBody old new place (Allocation a) later = later ≡ Allocation a
KeepsBody old new place (Descriptor d) later = KeepsNamed (is_named old place) old new place d later

-- there is a body at a place if and only if there was one before
abbrev pub KeepsPlace : StoreState → StoreState → ℕ → Option Body → Option Body → Type 0
KeepsPlace old new place None later = later ≡ None
KeepsPlace old new place (Some body) None = ⊥
KeepsPlace old new place (Some body) (Some later) = KeepsBody old new place body later

-- the lists and what they name, the HOBs and what they hold, and every other number but the spans of the heap and of pages
pub record IsUnchanged (old new : StoreState) : Type 0 where
  pub ppis : new.ppis ≡ old.ppis
  pub callbacks : new.callbacks ≡ old.callbacks
  pub dispatches : new.dispatches ≡ old.dispatches
  pub pendings : new.pendings ≡ old.pendings
  pub installed : Each (λ ppi. KeepsPpi old new ppi.descriptor) old.ppis
  pub registered : Each (λ note. KeepsNotification old new note.descriptor) (old.callbacks ++ old.dispatches)
  pub queued : Each (KeepsPending old new) old.pendings
  pub kinds : map (λ hob. hob.kind) new.hobs ≡ map (λ hob. hob.kind) old.hobs
  pub lengths : map hob_len new.hobs ≡ map hob_len old.hobs
  pub bodies : (place : ℕ) → KeepsPlace old new place (body_at old place) (body_at new place)
  pub taken : new.taken ≡ old.taken
  pub boot_mode : new.boot_mode ≡ old.boot_mode
  pub board : new.board ≡ old.board
  pub planned : new.planned ≡ old.planned
