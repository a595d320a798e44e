-- What holds of every state of a store: each entry names a node of its own and a descriptor of its list's kind, everything has room, and numbers fit their
-- fields. Own; this state describes linked nodes in byte memory.
use Rattle.std.specs.Prelude.{◌≡◌, ◌≢◌, ◌⊎◌, ℕ, ◌+◌, ◌%◌, ◌^◌, ◌<◌, ◌≤◌, Bool, true, false, List, ◌++◌, length, map, Option, Some, None, AllPairs, IfSome, ⊤}
use Rattle.hob_codec.specs.declared.kind.TheConstants.{HANDOFF, ALLOCATION, RESOURCE, NAMED, VOLUME, CPU, POOL, VOLUME2, END}
use Rattle.boot_plan.specs.declared.limits.TheConstants.{MOST_TEMP, MOST_RAM, MOST_END}
use Rattle.pi_base.specs.Lists.{Each, Ordered}
use Rattle.store_model.specs.{declared.limits.TheConstants.NOTE_NUMBERS, declared.store_handle.DescKind.DescKind}
use Rattle.store_model.specs.declared.store_handle.DescKind.TheVariants.{Ppi, Callback, Dispatch}
use Rattle.store_model.specs.{declared.store_handle.Desc.Desc, declared.store_handle.Pool.Pool, declared.store_handle.Sweep.Sweep}
use Rattle.store_model.specs.StoreState.{StoreState, Board, Range, Rom, Entry, Pending, DescriptorBody, AllocationBody, Body, Bytes, Descriptor, Node, Allocation, HobEntry, body_at, body_len, hob_len, most_hob, end_place, header_len, handoff_len, page_bytes}
use Rattle.store_model.specs.MemoryReading.{rom_bytes}

-- a node is at a place
abbrev pub IsNodeAt : StoreState → ℕ → Type 0
IsNodeAt s place = body_at s place ≡ Some Node

-- a descriptor of a kind is at a place
abbrev pub IsDescriptorAt : StoreState → DescKind → ℕ → Type 0
IsDescriptorAt s kind place = (d : DescriptorBody) × (body_at s place ≡ Some (Descriptor d)) × (d.kind ≡ kind)

-- an entry's node is a node, its descriptor is one of its list's kind, and its maker's number fits
abbrev pub IsEntry : StoreState → DescKind → Entry → Type 0
IsEntry s kind entry = IsNodeAt s entry.node × IsDescriptorAt s kind entry.descriptor × (entry.by < 2 ^ 32)

-- a queued pair's node is a node, its descriptors are a dispatch notification's and a PPI's, and its maker's number fits
abbrev pub IsPending : StoreState → Pending → Type 0
IsPending s pending =
    IsNodeAt s pending.node × IsDescriptorAt s Dispatch pending.descriptor × IsDescriptorAt s Ppi pending.ppi × (pending.by < 2 ^ 32)

-- the nodes of all four lists
abbrev pub nodes : StoreState → List ℕ
nodes s = map (λ entry. entry.node) (s.ppis ++ s.callbacks ++ s.dispatches) ++ map (λ pending. pending.node) s.pendings

-- a GUID that is after its descriptor has sixteen bytes, and one at an address is the volume's sixteen bytes there
abbrev pub IsGuidOf : Board → DescriptorBody → Option ℕ → Type 0
IsGuidOf board d None = length d.guid.0 ≡ 16
IsGuidOf board d (Some address) = rom_bytes board.roms address 16 ≡ Some d.guid.0

-- the number of a PPI is its value, and that of a notification the block of a module
abbrev pub IsNumberOf : DescKind → ℕ → Type 0
IsNumberOf Ppi number = number < 2 ^ 64
IsNumberOf Callback number = number < NOTE_NUMBERS
IsNumberOf Dispatch number = number < NOTE_NUMBERS

-- what an allocation HOB says of pages: its fields fit, and none of its pages is below all that were taken
pub record IsAllocation (taken : ℕ) (a : AllocationBody) : Type 0 where
  pub memory_type : a.memory_type < 2 ^ 32
  pub len : a.len < 2 ^ 64
  pub below : a.below ≤ taken

-- descriptors and nodes are in pools, and pages in allocation HOBs
abbrev pub IsBodyOf : Board → (taken kind : ℕ) → Body → Type 0
IsBodyOf board taken kind (Bytes bytes) = kind ≢ ALLOCATION
IsBodyOf board taken kind (Descriptor d) = (kind ≡ POOL) × IsGuidOf board d d.stands × IsNumberOf d.kind d.number
IsBodyOf board taken kind Node = kind ≡ POOL
IsBodyOf board taken kind (Allocation a) = (kind ≡ ALLOCATION) × IsAllocation taken a

-- a body is as long as the fields of its HOB's type; that of pages is so by what it is, and other types have any length
pub record HasTypesLength (kind len : ℕ) : Type 0 where
  pub resource : kind ≡ RESOURCE → len ≡ 40
  pub named : kind ≡ NAMED → 16 ≤ len
  pub volume : kind ≡ VOLUME → len ≡ 16
  pub cpu : kind ≡ CPU → len ≡ 8
  pub volume2 : kind ≡ VOLUME2 → len ≡ 48

-- a HOB after the hand-off HOB: its type is not that one's nor the end HOB's, its length is a multiple of 8 that fits, and its body has the length of its type
pub record IsHobEntry (board : Board) (taken : ℕ) (hob : HobEntry) : Type 0 where
  pub kind : hob.kind < 2 ^ 16
  pub not_handoff : hob.kind ≢ HANDOFF
  pub not_end : hob.kind ≢ END
  pub len : hob_len hob ≤ most_hob
  pub aligned : hob_len hob % 8 ≡ 0
  pub typed : HasTypesLength hob.kind (body_len hob.body)
  pub body : IsBodyOf board taken hob.kind hob.body

-- before the move no more pages are taken than the region has
abbrev pub ArePages : StoreState → Bool → Type 0
ArePages s true = ⊤
ArePages s false = s.taken ≤ s.board.pages

-- no address is in both
abbrev pub AreApart : Range → Range → Type 0
AreApart a b = (a.base + a.len ≤ b.base) ⊎ (b.base + b.len ≤ a.base)

-- the addresses of a volume
abbrev pub rom_range : Rom → Range
rom_range rom = record { base = rom.base; len = length rom.bytes }

-- a volume ends where a plan allows, and shares no address with temporary RAM or RAM
pub record IsMapped (board : Board) (rom : Rom) : Type 0 where
  pub end : rom.base + length rom.bytes ≤ MOST_END
  pub temp : AreApart board.temp (rom_range rom)
  pub ram : AreApart board.ram (rom_range rom)

-- temporary RAM and RAM have a length and an end that a plan allows, and the page region leaves room for an empty heap; temporary RAM, RAM and the volumes
-- share no address, and address 0 is in no heap
pub record IsBoard (board : Board) : Type 0 where
  pub temp_len : board.temp.len ≤ MOST_TEMP
  pub ram_len : board.ram.len ≤ MOST_RAM
  pub temp_begin : 0 < board.temp.base
  pub temp_end : board.temp.base + board.temp.len ≤ MOST_END
  pub ram_end : board.ram.base + board.ram.len ≤ MOST_END
  pub pages : board.pages + handoff_len + header_len ≤ board.temp.len
  pub memory : AreApart board.temp board.ram
  pub roms : Each (IsMapped board) board.roms
  pub roms_apart : Ordered (λ a b. AreApart (rom_range a) (rom_range b)) board.roms

-- permanent memory is in RAM, and temporary RAM fits into it
abbrev pub IsPlanned : Board → Range → Type 0
IsPlanned board to = (board.ram.base ≤ to.base) × (to.base + to.len ≤ board.ram.base + board.ram.len) × (board.temp.len ≤ to.len)

-- the heap and the end of pages: temporary RAM without its page region, then all of permanent memory
abbrev pub IsHeap : StoreState → Bool → Type 0
IsHeap s false =
    (s.base ≡ s.board.temp.base) × (s.len + s.board.pages ≡ s.board.temp.len) × (s.page_end ≡ s.board.temp.base + s.board.temp.len)
IsHeap s true = (s.planned ≡ Some (record { base = s.base; len = s.len })) × (s.page_end ≡ s.base + s.len)

-- all lists name what is there, each node once; the HOBs and pages have room, and every number fits its field, so that the bytes of the heap show all of it
pub record IsStoreState (s : StoreState) : Type 0 where
  pub ppis : Each (IsEntry s Ppi) s.ppis
  pub callbacks : Each (IsEntry s Callback) s.callbacks
  pub dispatches : Each (IsEntry s Dispatch) s.dispatches
  pub pendings : Each (IsPending s) s.pendings
  pub nodes : AllPairs (λ a b. a ≢ b) (nodes s)
  pub hobs : Each (IsHobEntry s.board s.taken) s.hobs
  pub boot_mode : s.boot_mode < 2 ^ 32
  pub room : end_place s + header_len + page_bytes s.moved s.taken ≤ s.len
  pub pages : ArePages s s.moved
  pub board : IsBoard s.board
  pub planned : IfSome s.planned (IsPlanned s.board)
  pub heap : IsHeap s s.moved

-- a descriptor of a kind that a caller may hand in
abbrev pub IsDescOf : StoreState → DescKind → Desc → Type 0
IsDescOf s kind d = IsDescriptorAt s kind d.offset

-- a descriptor of any kind that a caller may hand in
abbrev pub IsDesc : StoreState → Desc → Type 0
IsDesc s d = (body : DescriptorBody) × (body_at s d.offset ≡ Some (Descriptor body))

-- a pool that a caller may hand in: its bytes are at least those that were asked for
abbrev pub IsPool : StoreState → Pool → Type 0
IsPool s pool = (bytes : List ℕ) × (body_at s pool.offset ≡ Some (Bytes bytes)) × (pool.size ≤ length bytes)

-- a sweep's places are those of PPIs and callbacks that are there
pub record IsSweepOf (s : StoreState) (sweep : Sweep) : Type 0 where
  pub ppis : sweep.ppi_to ≤ length s.ppis
  pub notes : sweep.note_to ≤ length s.callbacks
