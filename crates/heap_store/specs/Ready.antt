-- A state whose move begins, and what follows of it: its bodies have their lengths, its numbers fit, and no GUID in a volume lies in temporary RAM.
-- Own.
use Rattle.std.specs.Prelude.{◌≡◌, ◌≢◌, ◌⊎◌, ℕ, ◌+◌, ◌<◌, ◌≤◌, ◌^◌, false, Some, IfSome}
use Rattle.phys_mem.specs.declared.memory.PhysMem.{PhysMem}
use Rattle.hob_codec.specs.declared.kind.TheConstants.{ALLOCATION}
use Rattle.store_model.specs.{declared.state.Body.Body, declared.state.DescriptorBody.DescriptorBody, declared.state.HobEntry.HobEntry}
use Rattle.store_model.specs.declared.state.Body.TheVariants.{Bytes, Descriptor, Node, Allocation}
use Rattle.pi_base.specs.Lists.{Each}
use Rattle.store_model.specs.StoreState.{Range, StoreState, body_at, hob_len, end_place, header_len}
use Rattle.store_model.specs.{StateFacts.IsStoreState, HeapImage.body_bytes, Migration.migrated_to}
use Rattle.store_laws.specs.{Mapped.IsMemoryOf, Spelling.AreSpelled}
use Rattle.heap_store.specs.{declared.course.Course.Course, Course.IsCourse}

-- memory has the image of a state whose move is due
pub record IsMoving (s : StoreState) (to : Range) (memory : PhysMem) : Type 0 where
  pub state : IsStoreState s
  pub still : s.moved ≡ false
  pub planned : s.planned ≡ Some to
  pub memory_is : IsMemoryOf s memory

-- the way from a state's heap to another
abbrev pub course_of : StoreState → Range → Course
course_of s to = record { from = s.base; len = s.len; pages = s.board.pages; to = to.base; room = to.len }

-- an address outside the old heap and its page region
abbrev pub IsElsewhere : StoreState → ℕ → Type 0
IsElsewhere s at = (at < s.base) ⊎ (s.page_end ≤ at)

pub record IsMovable (s : StoreState) (d : DescriptorBody) : Type 0 where
  pub number : d.number < 256 ^ 8
  pub low : IfSome d.stands (λ at. at < 256 ^ 8)
  pub guid : IfSome d.stands (IsElsewhere s)

-- pages stand in HOBs of their type alone, and lie in the page region
abbrev pub IsOfKind : StoreState → ℕ → Body → Type 0
IsOfKind s kind (Bytes bytes) = kind ≢ ALLOCATION
IsOfKind s kind (Descriptor d) = kind ≢ ALLOCATION
IsOfKind s kind Node = kind ≢ ALLOCATION
IsOfKind s kind (Allocation a) = (kind ≡ ALLOCATION) × (a.below ≤ s.board.pages)

pub record HasHeader (s : StoreState) (hob : HobEntry) : Type 0 where
  pub kind : hob.kind < 256 ^ 2
  pub len : hob_len hob < 256 ^ 2
  pub body : IsOfKind s hob.kind hob.body

pub record IsReady (s : StoreState) (to : Range) (course : Course) : Type 0 where
  pub state : IsStoreState s
  pub after : IsStoreState (migrated_to s to)
  pub way : IsCourse s to course
  pub bodies : AreSpelled (body_bytes s) s.hobs
  pub descriptors : (place : ℕ) (d : DescriptorBody) → body_at s place ≡ Some (Descriptor d) → IsMovable s d
  pub headers : Each (HasHeader s) s.hobs
  pub room : end_place s + header_len ≤ s.len
