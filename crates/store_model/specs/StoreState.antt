-- What a store holds: the HOBs in order, the PPIs, the notifications and the queued pairs, and where its heap and its pages are. A place is an offset from the
-- heap's base. The board's memory never changes in a boot.
-- PI 1.8, volume 1 (PPIs and notifications) and volume 3 (HOBs); the record of lists is own.
use Rattle.std.specs.Prelude.{ℕ, ◌+◌, ◌-◌, ◌*◌, ◌/◌, Bool, ◌==◌, if◌then◌else◌, List, [], ◌∷◌, ◌++◌, length, sum_by, Option, Some, None}
use Rattle.hob_codec.specs.declared.kind.TheConstants.{POOL}
use Rattle.pi_base.specs.declared.span.Span.{Span}
pub use Rattle.phys_mem.specs.declared.rom.Rom.{Rom}
pub use Rattle.store_model.specs.declared.state.Entry.{Entry}
pub use Rattle.store_model.specs.declared.state.Pending.{Pending}
pub use Rattle.store_model.specs.declared.state.DescriptorBody.{DescriptorBody}
pub use Rattle.store_model.specs.declared.state.AllocationBody.{AllocationBody}
pub use Rattle.store_model.specs.declared.state.Body.{Body}
pub use Rattle.store_model.specs.declared.state.Body.TheVariants.{Bytes, Descriptor, Node, Allocation}
pub use Rattle.store_model.specs.declared.state.HobEntry.{HobEntry}

-- addresses from base on
pub record Range : Type 0 where
  pub base : ℕ
  pub len : ℕ

-- the memory of a span
abbrev pub range_of : Span → Range
range_of span = record { base = span.base; len = span.len }

-- the memory of the board: temporary RAM, of which the last `pages` bytes are the page region, RAM, and the mapped volumes
pub record Board : Type 0 where
  pub temp : Range
  pub pages : ℕ
  pub ram : Range
  pub roms : List Rom

-- the HOBs are between the hand-off HOB and the end HOB; base and len are the heap's; `taken` bytes of pages are below `page_end`
pub record StoreState : Type 0 where
  pub board : Board
  pub hobs : List HobEntry
  pub ppis : List Entry
  pub callbacks : List Entry
  pub dispatches : List Entry
  pub pendings : List Pending
  pub base : ℕ
  pub len : ℕ
  pub page_end : ℕ
  pub taken : ℕ
  pub boot_mode : ℕ
  pub planned : Option Range
  pub moved : Bool

-- the bytes of a HOB's header
abbrev pub header_len : ℕ
header_len = 8

-- the bytes of the hand-off HOB, its header included
abbrev pub handoff_len : ℕ
handoff_len = 56

-- the bytes of a node's body
abbrev pub node_len : ℕ
node_len = 32

-- the most bytes that a HOB has, its header included: a multiple of 8 that its length field holds
abbrev pub most_hob : ℕ
most_hob = 65528

-- the next multiple of 8
abbrev pub rounded : ℕ → ℕ
rounded n = (n + 7) / 8 * 8

-- the length of a descriptor's body, which depends on where its GUID is
abbrev pub descriptor_len : Option ℕ → ℕ
descriptor_len None = 40
descriptor_len (Some address) = 24

-- the length of a HOB's body
abbrev pub body_len : Body → ℕ
body_len (Bytes bytes) = length bytes
body_len (Descriptor d) = descriptor_len d.stands
body_len Node = node_len
body_len (Allocation allocation) = 40

-- the length of a HOB, its header included
abbrev pub hob_len : HobEntry → ℕ
hob_len hob = header_len + body_len hob.body

-- the place of the end HOB
abbrev pub end_place : StoreState → ℕ
end_place s = handoff_len + sum_by hob_len s.hobs

-- the place of the next HOB's body
abbrev pub next_body : StoreState → ℕ
next_body s = end_place s + header_len

-- the bytes of the heap that pages take: none before the move, since pages are then outside the heap
abbrev pub page_bytes : Bool → ℕ → ℕ
page_bytes moved taken = if moved then taken else 0

-- the bytes that are left for HOBs, and after the move for pages
abbrev pub free : StoreState → ℕ
free s = s.len - header_len - end_place s - page_bytes s.moved s.taken

-- the body at a place, if the first of these HOBs is at `at`
abbrev pub body_from : ℕ → List HobEntry → ℕ → Option Body
body_from at [] place = None
body_from at (hob ∷ hobs) place = if at + header_len == place then Some hob.body else body_from (at + hob_len hob) hobs place

-- the body at a place
abbrev pub body_at : StoreState → ℕ → Option Body
body_at s place = body_from handoff_len s.hobs place

-- the HOBs with the body at a place changed, if the first of these is at `at`
abbrev pub with_body : (Body → Body) → ℕ → List HobEntry → ℕ → List HobEntry
with_body change at [] place = []
with_body change at (hob ∷ hobs) place =
    (if at + header_len == place then record hob { body = change hob.body } else hob) ∷ with_body change (at + hob_len hob) hobs place

-- a HOB after the others
abbrev pub appended : StoreState → HobEntry → StoreState
appended s hob = record s { hobs = s.hobs ++ hob ∷ [] }

-- a pool with this body
abbrev pub pool_of : Body → HobEntry
pool_of body = record { kind = POOL; body = body }

-- a store whose heap holds the hand-off HOB alone: temporary RAM without its page region
abbrev pub empty_store : Board → StoreState
empty_store board = record {
  board = board;
  hobs = [];
  ppis = [];
  callbacks = [];
  dispatches = [];
  pendings = [];
  base = board.temp.base;
  len = board.temp.len - board.pages;
  page_end = board.temp.base + board.temp.len;
  taken = 0;
  boot_mode = 0;
  planned = None;
  moved = Bool.false;
}
