-- The heap's bytes one by one: a byte of a list, and the numbers of a node.
-- Own.
use Rattle.std.specs.Prelude.{ℕ, ◌+◌, ◌<◌, ◌^◌, List, [], ◌∷◌, replicate, unwrap_or, slice_get}
use Rattle.hob_codec.specs.{HobBytes.fields_of, HobBytes.joined, HobValue.AllocationHob}
use Rattle.store_model.specs.{declared.state.AllocationBody.AllocationBody, declared.state.Entry.Entry, declared.state.Pending.Pending}
use Rattle.store_model.specs.HeapImage.{Links}

-- the byte in a place, and 0 past the last
abbrev pub byte_of : List ℕ → ℕ → ℕ
byte_of bytes place = unwrap_or (slice_get bytes place) 0

-- the bytes of a HOB of pages after its header, from a base
abbrev pub pages_bytes : ℕ → AllocationBody → List ℕ
pages_bytes base a = joined (fields_of (AllocationHob (replicate 16 0) base a.len a.memory_type))

-- a node's four numbers
abbrev pub link_words : Links → List ℕ
link_words links = links.next ∷ links.descriptor ∷ links.second ∷ links.number ∷ []

-- what is named is in a heap at a base, whose addresses fit
abbrev pub IsNear : ℕ → Entry → Type 0
IsNear base entry = (base + entry.node < 2 ^ 64) × (base + entry.descriptor < 2 ^ 64)

abbrev pub IsPendingNear : ℕ → Pending → Type 0
IsPendingNear base pending = (base + pending.node < 2 ^ 64) × (base + pending.descriptor < 2 ^ 64) × (base + pending.ppi < 2 ^ 64)
