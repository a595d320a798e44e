-- The bytes of the heap: the hand-off HOB, each HOB with its nodes, descriptors and pages spelled at the heap's base, the end HOB, and zeros.
-- A node is four numbers: the address of the next node of its list or 0, that of its descriptor, that of the PPI's descriptor in a queued pair or 0, and the number of the module.
-- PI 1.8, volume 3 (`EFI_HOB_GENERIC_HEADER` and its HOBs) and volume 1 (`EFI_PEI_PPI_DESCRIPTOR`); the nodes are own.
use Rattle.std.specs.Prelude.{ℕ, ◌+◌, ◌-◌, ◌==◌, if◌then◌else◌, List, [], ◌∷◌, ◌++◌, length, replicate, Option, Some, None}
use Rattle.std.specs.Option.{option_or}
use Rattle.pi_base.specs.Field.{little_bytes}
use Rattle.hob_codec.specs.{declared.kind.TheConstants.HANDOFF, declared.kind.TheConstants.END, declared.hob.Handoff.Handoff}
use Rattle.hob_codec.specs.HobValue.{HandoffHob, AllocationHob}
use Rattle.hob_codec.specs.HobBytes.{fields_of, header_fields, joined}
use Rattle.store_model.specs.declared.store_handle.DescKind.{DescKind}
use Rattle.store_model.specs.declared.store_handle.DescKind.TheVariants.{Ppi, Callback, Dispatch}
use Rattle.store_model.specs.StoreState.{Entry, Pending, DescriptorBody, AllocationBody, Body, Bytes, Descriptor, Node, Allocation, HobEntry, StoreState, end_place, header_len, handoff_len, node_len, hob_len, page_bytes}

-- a node's four fields: next, descriptor and second are addresses or 0
pub record Links : Type 0 where
  pub next : ℕ
  pub descriptor : ℕ
  pub second : ℕ
  pub number : ℕ

-- the flags of a descriptor, which is the last of its list
abbrev pub kind_flags : DescKind → ℕ
kind_flags Ppi = 0x80000010
kind_flags Callback = 0x80000020
kind_flags Dispatch = 0x80000040

-- the address of the GUID of the descriptor at a place
abbrev pub guid_address : ℕ → ℕ → Option ℕ → ℕ
guid_address base place None = base + place + 24
guid_address base place (Some address) = address

-- the sixteen bytes of the GUID after the descriptor, if the GUID is in no volume
abbrev pub guid_behind : DescriptorBody → Option ℕ → List ℕ
guid_behind d None = d.guid.0
guid_behind d (Some address) = []

-- the descriptor at a place of a heap
abbrev pub descriptor_bytes : ℕ → ℕ → DescriptorBody → List ℕ
descriptor_bytes base place d =
    little_bytes 8 (kind_flags d.kind) ++ little_bytes 8 (guid_address base place d.stands) ++ little_bytes 8 d.number
    ++ guid_behind d d.stands

-- the address of the first node of these, or 0
abbrev pub first_node : ℕ → List Entry → ℕ
first_node base [] = 0
first_node base (entry ∷ entries) = base + entry.node

-- and of the first node of these queued pairs
abbrev pub first_pending : ℕ → List Pending → ℕ
first_pending base [] = 0
first_pending base (pending ∷ pendings) = base + pending.node

-- the fields of the node at a place, if one of these entries has it
abbrev pub links_in : ℕ → ℕ → List Entry → Option Links
links_in base place [] = None
links_in base place (entry ∷ entries) =
    if entry.node == place
    then Some (record { next = first_node base entries; descriptor = base + entry.descriptor; second = 0; number = entry.by })
    else links_in base place entries

-- the fields of the node at a place, if one of these queued pairs has it; its second descriptor is the PPI's
abbrev pub pending_links_in : ℕ → ℕ → List Pending → Option Links
pending_links_in base place [] = None
pending_links_in base place (pending ∷ pendings) =
    if pending.node == place
    then Some (record {
      next = first_pending base pendings;
      descriptor = base + pending.descriptor;
      second = base + pending.ppi;
      number = pending.by;
    })
    else pending_links_in base place pendings

-- the fields of the node at a place, from whichever of the four lists has it; nothing if no list has
abbrev pub links_at : StoreState → ℕ → Option Links
links_at s place =
    option_or (links_in s.base place s.ppis)
    (option_or (links_in s.base place s.callbacks) (option_or (links_in s.base place s.dispatches) (pending_links_in s.base place s.pendings)))

-- the four fields, or zeros if no list has the node
abbrev pub links_bytes : Option Links → List ℕ
links_bytes None = replicate node_len 0
links_bytes (Some links) =
    little_bytes 8 links.next ++ little_bytes 8 links.descriptor ++ little_bytes 8 links.second ++ little_bytes 8 links.number

-- the node at a place
abbrev pub node_bytes : StoreState → ℕ → List ℕ
node_bytes s place = links_bytes (links_at s place)

-- pages that were taken, their base counted down from an end; the name is zero
abbrev pub allocation_bytes : ℕ → AllocationBody → List ℕ
allocation_bytes page_end a = joined (fields_of (AllocationHob (replicate 16 0) (page_end - a.below) a.len a.memory_type))

-- the body at a place
abbrev pub body_bytes : StoreState → ℕ → Body → List ℕ
body_bytes s place (Bytes bytes) = bytes
body_bytes s place (Descriptor d) = descriptor_bytes s.base place d
body_bytes s place Node = node_bytes s place
body_bytes s place (Allocation a) = allocation_bytes s.page_end a

-- the generic header of a HOB: type, length, and four reserved bytes
abbrev pub header_bytes : ℕ → ℕ → List ℕ
header_bytes kind len = joined (header_fields kind len)

-- the HOBs, of which the first is at `at`
abbrev pub hobs_bytes : StoreState → ℕ → List HobEntry → List ℕ
hobs_bytes s at [] = []
hobs_bytes s at (hob ∷ hobs) =
    header_bytes hob.kind (hob_len hob) ++ body_bytes s (at + header_len) hob.body ++ hobs_bytes s (at + hob_len hob) hobs

-- what the first HOB says: the heap, less the pages that it has lost, and the places of the end HOB and after it
abbrev pub handoff_of : StoreState → Handoff
handoff_of s = record {
  boot_mode = s.boot_mode;
  top = s.base + s.len;
  bottom = s.base;
  free_top = s.base + s.len - page_bytes s.moved s.taken;
  free_bottom = s.base + end_place s + header_len;
  end = s.base + end_place s;
}

-- its body
abbrev pub handoff_body : StoreState → List ℕ
handoff_body s = joined (fields_of (HandoffHob (handoff_of s)))

-- the HOB list, after which the heap is zero
abbrev pub hob_list : StoreState → List ℕ
hob_list s = header_bytes HANDOFF handoff_len ++ handoff_body s ++ hobs_bytes s handoff_len s.hobs ++ header_bytes END header_len

-- all bytes of the heap
abbrev pub heap_image : StoreState → List ℕ
heap_image s = hob_list s ++ replicate (s.len - length (hob_list s)) 0
