-- What can be read of a store's lists and of its HOBs, without a change. Places count from 0.
-- PI 1.8, volume 1, `LocatePpi()`; the other readings are own.
use Rattle.std.specs.Prelude.{ℕ, ◌+◌, Bool, ◌==◌, ◌&&◌, if◌then◌else◌, not, List, [], ◌∷◌, map, Option, Some, None, option_map, filter, slice_get, is_some}
use Rattle.pi_base.specs.{declared.guid.Guid.Guid, Field.little_number, Guids.same_guid}
use Rattle.hob_codec.specs.declared.kind.TheConstants.{HANDOFF, VOLUME}
use Rattle.store_model.specs.{declared.store_handle.DescKind.DescKind, declared.store_handle.Desc.Desc}
use Rattle.store_model.specs.declared.store_handle.DescKind.TheVariants.{Ppi, Callback, Dispatch}
use Rattle.store_model.specs.{declared.store_handle.EntryList.EntryList, declared.store_handle.EntryTold.EntryTold}
use Rattle.store_model.specs.declared.store_handle.EntryList.TheVariants.{Ppis, Callbacks, Dispatches, Pendings}
use Rattle.store_model.specs.{declared.store_handle.HobSpan.HobSpan, HeapImage.body_bytes}
use Rattle.store_model.specs.StoreState.{Entry, Pending, HobEntry, StoreState, hob_len, handoff_len}
use Rattle.store_model.specs.Service.Descriptor.{guid_at, number_at}

-- the PPIs of a GUID, in order
abbrev pub ppis_of : StoreState → Guid → List Entry
ppis_of s guid = filter (λ entry. same_guid (guid_at s entry.descriptor) guid) s.ppis

-- the n-th of them, with its value
abbrev pub nth_ppi : StoreState → Guid → ℕ → Option (Desc × ℕ)
nth_ppi s guid n = option_map (λ entry. (record { offset = entry.descriptor }, number_at s entry.descriptor)) (slice_get (ppis_of s guid) n)

-- GUID, value and maker of the PPI in a place
abbrev pub ppi_at : StoreState → ℕ → Option (Guid × ℕ × ℕ)
ppi_at s place = option_map (λ entry. (guid_at s entry.descriptor, number_at s entry.descriptor, entry.by)) (slice_get s.ppis place)

-- the list of the notifications of a kind
abbrev pub notes_of : StoreState → DescKind → List Entry
notes_of s Ppi = []
notes_of s Callback = s.callbacks
notes_of s Dispatch = s.dispatches

-- GUID and entry of the notification in a place
abbrev pub note_at : StoreState → DescKind → ℕ → Option (Guid × ℕ)
note_at s kind place = option_map (λ entry. (guid_at s entry.descriptor, number_at s entry.descriptor)) (slice_get (notes_of s kind) place)

-- the PPI's GUID, and the entry of the notification, of the queued pair in a place
abbrev pub pending_at : StoreState → ℕ → Option (Guid × ℕ)
pending_at s place = option_map (λ pending. (guid_at s pending.ppi, number_at s pending.descriptor)) (slice_get s.pendings place)

-- GUID and number of a descriptor
abbrev pub descriptor : StoreState → Desc → Guid × ℕ
descriptor s d = (guid_at s d.offset, number_at s d.offset)

-- what can be read of an entry
abbrev pub entry_told : StoreState → Entry → EntryTold
entry_told s entry = record { node = entry.node; guid = guid_at s entry.descriptor; number = number_at s entry.descriptor; by = entry.by }

-- what can be read of a queued pair: the PPI's GUID and the notification's entry
abbrev pub pending_told : StoreState → Pending → EntryTold
pending_told s pending =
    record { node = pending.node; guid = guid_at s pending.ppi; number = number_at s pending.descriptor; by = pending.by }

-- what can be read of all entries of a list, in order
abbrev pub told_of : StoreState → EntryList → List EntryTold
told_of s Ppis = map (entry_told s) s.ppis
told_of s Callbacks = map (entry_told s) s.callbacks
told_of s Dispatches = map (entry_told s) s.dispatches
told_of s Pendings = map (pending_told s) s.pendings

-- those after the one with a node
abbrev pub behind_node : ℕ → List EntryTold → List EntryTold
behind_node node [] = []
behind_node node (told ∷ rest) = if told.node == node then rest else behind_node node rest

-- the entries after a node, or all if no node is given
abbrev pub told_behind : Option ℕ → List EntryTold → List EntryTold
told_behind None told = told
told_behind (Some node) told = behind_node node told

-- the entry after the one with a node, or the first if no node is given
abbrev pub entry_behind : StoreState → EntryList → Option ℕ → Option EntryTold
entry_behind s list node = slice_get (told_behind node (told_of s list)) 0

-- memory was planned and not yet moved to
abbrev pub memory_due : StoreState → Bool
memory_due s = is_some s.planned && not s.moved

-- the HOB at an offset, if the first of these is at `at`
abbrev pub span_from : ℕ → List HobEntry → ℕ → Option HobSpan
span_from at [] offset = None
span_from at (hob ∷ hobs) offset =
    if at == offset then Some (record { kind = hob.kind; length = hob_len hob; next = at + hob_len hob })
    else span_from (at + hob_len hob) hobs offset

-- the HOB at an offset of the heap, the hand-off HOB at 0
abbrev pub hob_at : StoreState → ℕ → Option HobSpan
hob_at s offset =
    if offset == 0 then Some (record { kind = HANDOFF; length = handoff_len; next = handoff_len })
    else span_from handoff_len s.hobs offset

-- the FV HOBs, which report volumes
abbrev pub volume_hobs : StoreState → List HobEntry
volume_hobs s = filter (λ hob. hob.kind == VOLUME) s.hobs

-- the bases of these volumes, in order of the HOBs
abbrev pub fv_bases : StoreState → List ℕ
fv_bases s = map (λ hob. little_number 8 (body_bytes s 0 hob.body)) (volume_hobs s)
