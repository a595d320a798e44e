-- Descriptors: a descriptor of a PPI or a notification is made in a pool. Its GUID is after it or in a volume. What is at a place that is no descriptor's is
-- never asked for.
-- PI 1.8, volume 1, `EFI_PEI_PPI_DESCRIPTOR` and `EFI_PEI_NOTIFY_DESCRIPTOR`.
use Rattle.std.specs.Prelude.{ℕ, ◌+◌, Bool, true, false, ◌==◌, ◌||◌, List, [], ◌++◌, map, Option, Some, None, option_map, unwrap_or, Ok, Err}
use Rattle.std.specs.List.{list_any}
use Rattle.pi_base.specs.declared.guid.Guid.{Guid}
use Rattle.store_model.specs.{declared.store_handle.DescKind.DescKind, declared.store_handle.Desc.Desc}
use Rattle.store_model.specs.declared.store_handle.DescKind.TheVariants.{Ppi, Callback, Dispatch}
use Rattle.store_model.specs.declared.store_handle.GuidFrom.{GuidFrom}
use Rattle.store_model.specs.declared.store_handle.GuidFrom.TheVariants.{Inline, At}
use Rattle.store_model.specs.{declared.store_handle.StoreFault.TheVariants.Bad, MemoryReading.rom_bytes, Service.Service, Service.in_room}
use Rattle.store_model.specs.StoreState.{Entry, DescriptorBody, Body, Bytes, Descriptor, Node, Allocation, StoreState, next_body, header_len, body_at, appended, pool_of, descriptor_len}

-- the GUID, and its address if it is in a volume; nothing if no single volume has 16 bytes at the address
abbrev pub guid_from : StoreState → GuidFrom → Option (Guid × Option ℕ)
guid_from s (Inline guid) = Some (guid, None)
guid_from s (At address) = option_map (λ bytes. (record { 0 = bytes }, Some address)) (rom_bytes s.board.roms address 16)

-- the descriptor's call with the GUID that was found, if one was
abbrev pub desc_of : StoreState → DescKind → ℕ → Option (Guid × Option ℕ) → Service Desc
desc_of s kind number None = Err Bad
desc_of s kind number (Some (guid, stands)) =
    in_room s (descriptor_len stands + header_len)
    (Ok (
      record { offset = next_body s },
      appended s (pool_of (Descriptor (record { kind = kind; guid = guid; stands = stands; number = number }))),
    ))

-- a descriptor that nothing names yet
abbrev pub desc : StoreState → DescKind → GuidFrom → ℕ → Service Desc
desc s kind guid number = desc_of s kind number (guid_from s guid)

-- the descriptor that a body is
abbrev pub descriptor_of : Body → Option DescriptorBody
descriptor_of (Descriptor d) = Some d
descriptor_of (Bytes bytes) = None
descriptor_of Node = None
descriptor_of (Allocation a) = None

-- and that a body is, if there is one
abbrev pub descriptor_in : Option Body → Option DescriptorBody
descriptor_in None = None
descriptor_in (Some body) = descriptor_of body

-- the descriptor at a place
abbrev pub descriptor_at : StoreState → ℕ → Option DescriptorBody
descriptor_at s place = descriptor_in (body_at s place)

-- whether a descriptor is a PPI's
abbrev pub is_ppi : DescKind → Bool
is_ppi Ppi = true
is_ppi Callback = false
is_ppi Dispatch = false

-- whether a descriptor is a callback's
abbrev pub is_callback : DescKind → Bool
is_callback Ppi = false
is_callback Callback = true
is_callback Dispatch = false

-- its kind, GUID and number
abbrev pub kind_at : StoreState → ℕ → DescKind
kind_at s place = unwrap_or (option_map (λ d. d.kind) (descriptor_at s place)) Dispatch

-- the GUID that is given if there is no descriptor
abbrev pub no_guid : Guid
no_guid = record { 0 = [] }

-- the GUID of the descriptor at a place
abbrev pub guid_at : StoreState → ℕ → Guid
guid_at s place = unwrap_or (option_map (λ d. d.guid) (descriptor_at s place)) no_guid

-- the value of the PPI, or the entry of the notification, whose descriptor is at a place
abbrev pub number_at : StoreState → ℕ → ℕ
number_at s place = unwrap_or (option_map (λ d. d.number) (descriptor_at s place)) 0

-- the places of the descriptors that are named
abbrev pub descriptors : List Entry → List ℕ
descriptors entries = map (λ entry. entry.descriptor) entries

-- the places of the descriptors that are handed in
abbrev pub offsets : List Desc → List ℕ
offsets list = map (λ d. d.offset) list

-- whether an entry or a queued pair names the descriptor at a place
abbrev pub is_named : StoreState → ℕ → Bool
is_named s place =
    list_any (λ named. named == place) (descriptors (s.ppis ++ s.callbacks ++ s.dispatches))
    || list_any (λ pending. pending.descriptor == place || pending.ppi == place) s.pendings
