-- What the heap becomes when a HOB is added: the last three fields of the hand-off HOB change, the HOB is written over the end HOB, and a new end HOB follows
-- it. PI 1.8, volume 3, `EFI_HOB_HANDOFF_INFO_TABLE` and `EFI_HOB_GENERIC_HEADER`.
use Rattle.std.specs.Prelude.{◌≡◌, ℕ, ◌+◌, ◌-◌, ◌≤◌, List, ◌++◌, length, replicate}
use Rattle.pi_base.specs.Field.{little_bytes}
use Rattle.phys_mem.specs.Region.{replaced}
use Rattle.hob_codec.specs.declared.kind.TheConstants.{HANDOFF, END, POOL}
use Rattle.store_model.specs.{declared.state.Body.TheVariants.Node, declared.state.HobEntry.HobEntry, StateFacts.IsStoreState}
use Rattle.store_model.specs.StoreState.{StoreState, appended, end_place, handoff_len, header_len, hob_len, next_body, node_len, page_bytes, pool_of}
use Rattle.store_model.specs.HeapImage.{header_bytes, handoff_body, body_bytes, heap_image}

-- the hand-off HOB
abbrev pub front_bytes : StoreState → List ℕ
front_bytes s = header_bytes HANDOFF handoff_len ++ handoff_body s

-- the place of its last three fields
abbrev pub free_fields_at : ℕ
free_fields_at = 32

-- the address after what is free, its first address, and that of the end HOB
abbrev pub free_bytes : (top end : ℕ) → List ℕ
free_bytes top end = little_bytes 8 top ++ little_bytes 8 (end + header_len) ++ little_bytes 8 end

-- a HOB more, and so many bytes of pages that are taken
abbrev pub grown : StoreState → HobEntry → ℕ → StoreState
grown s hob taken = record (appended s hob) { taken = taken }

abbrev pub free_fields : StoreState → List ℕ
free_fields s = free_bytes (s.base + s.len - page_bytes s.moved s.taken) (s.base + end_place s)

-- a heap with these fields, with a text at a place, and with an end HOB so many bytes after that place
abbrev pub with_hob : (heap fields : List ℕ) (place : ℕ) (text : List ℕ) (len : ℕ) → List ℕ
with_hob heap fields place text len =
    replaced (replaced (replaced heap free_fields_at fields) place text) (place + len) (header_bytes END header_len)

-- a HOB after the others has these bytes, its header among them, and then zeros
pub record IsText (s : StoreState) (hob : HobEntry) (text : List ℕ) (zeros : ℕ) : Type 0 where
  pub bytes : header_bytes hob.kind (hob_len hob) ++ body_bytes s (next_body s) hob.body ≡ text ++ replicate zeros 0
  pub len : length text + zeros ≡ hob_len hob
  pub header : header_len ≤ length text

-- it and an end HOB have room
abbrev pub HasHobRoom : StoreState → HobEntry → Type 0
HasHobRoom s hob = end_place s + hob_len hob + header_len ≤ s.len

-- zeros are there already, and need not be written
abbrev pub HobsAreAdded : Type 0
HobsAreAdded = (s : StoreState) (hob : HobEntry) (taken : ℕ) (text : List ℕ) (zeros : ℕ) → IsStoreState s → HasHobRoom s hob
    → IsText s hob text zeros
    → heap_image (grown s hob taken) ≡ with_hob (heap_image s) (free_fields (grown s hob taken)) (end_place s) text (hob_len hob)

-- a node that no entry has is a header and zeros
abbrev pub NodesAreTexts : Type 0
NodesAreTexts = (s : StoreState) → IsStoreState s → IsText s (pool_of Node) (header_bytes POOL (header_len + node_len)) node_len
