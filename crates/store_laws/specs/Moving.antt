-- The heap while it is moved: what is done is spelled at the new base, and the rest at the old.
-- Own.
use Rattle.std.specs.Prelude.{◌≡◌, ℕ, ◌+◌, ◌-◌, Bool, true, false, ◌==◌, ◌||◌, if◌then◌else◌, List, length, Some}
use Rattle.phys_mem.specs.Region.{replaced}
use Rattle.store_model.specs.{declared.state.Body.Body, declared.state.DescriptorBody.DescriptorBody}
use Rattle.store_model.specs.declared.state.Body.TheVariants.{Bytes, Descriptor, Node, Allocation}
use Rattle.store_model.specs.{declared.state.AllocationBody.AllocationBody, declared.state.HobEntry.HobEntry, Service.Descriptor.is_named}
use Rattle.pi_base.specs.Lists.{Each}
use Rattle.store_model.specs.StoreState.{Range, StoreState, body_from, body_len}
use Rattle.store_model.specs.HeapImage.{descriptor_bytes, node_bytes, allocation_bytes, hobs_bytes}
use Rattle.store_model.specs.Migration.{migrated_to, moved_number, moved_descriptor, moved_body, moved_hobs}
use Rattle.store_model.specs.StateFacts.{IsStoreState}
use Rattle.store_laws.specs.Spelling.{spelled, AreSpelled}

-- which nodes, descriptors and pages are done, by their places
pub record Done : Type 0 where
  pub nodes : ℕ → Bool
  pub descriptors : ℕ → Bool
  pub pages : ℕ → Bool

abbrev pub half : StoreState → Range → Done → ℕ → Body → List ℕ
half s to done place (Bytes bytes) = bytes
half s to done place (Descriptor d) = if done.descriptors place then descriptor_bytes to.base place (moved_descriptor s to d) else descriptor_bytes s.base place d
half s to done place Node = if done.nodes place then node_bytes (migrated_to s to) place else node_bytes s place
half s to done place (Allocation a) = if done.pages place then allocation_bytes (to.base + to.len) a else allocation_bytes s.page_end a

-- one descriptor more
abbrev pub with_descriptor : Done → ℕ → Done
with_descriptor done p = record done { descriptors = λ place. done.descriptors place || place == p }

abbrev pub all_done : StoreState → Done
all_done s = record { nodes = λ _. true; descriptors = is_named s; pages = λ _. true }

abbrev pub DescriptorsAreMoved : Type 0
DescriptorsAreMoved = (s : StoreState) (to : Range) (done : Done) (hobs : List HobEntry) (at p : ℕ) (d : DescriptorBody)
    → AreSpelled (half s to done) hobs → body_from at hobs p ≡ Some (Descriptor d)
    → length (descriptor_bytes to.base p (moved_descriptor s to d)) ≡ body_len (Descriptor d)
    → spelled (half s to (with_descriptor done p)) at hobs
    ≡ replaced (spelled (half s to done) at hobs) (p - at) (descriptor_bytes to.base p (moved_descriptor s to d))

-- one node more, and the pages of one HOB more
abbrev pub with_node_done : Done → ℕ → Done
with_node_done done p = record done { nodes = λ place. done.nodes place || place == p }

abbrev pub with_pages_done : Done → ℕ → Done
with_pages_done done p = record done { pages = λ place. done.pages place || place == p }

abbrev pub NodesAreMoved : Type 0
NodesAreMoved = (s : StoreState) (to : Range) (done : Done) (hobs : List HobEntry) (at p : ℕ) → AreSpelled (half s to done) hobs
    → body_from at hobs p ≡ Some Node
    → spelled (half s to (with_node_done done p)) at hobs
    ≡ replaced (spelled (half s to done) at hobs) (p - at) (node_bytes (migrated_to s to) p)

abbrev pub PagesAreMoved : Type 0
PagesAreMoved = (s : StoreState) (to : Range) (done : Done) (hobs : List HobEntry) (at p : ℕ) (a : AllocationBody)
    → AreSpelled (half s to done) hobs → body_from at hobs p ≡ Some (Allocation a)
    → spelled (half s to (with_pages_done done p)) at hobs
    ≡ replaced (spelled (half s to done) at hobs) (p - at) (allocation_bytes (to.base + to.len) a)

-- if all is moved, these are the bytes of the state after the move
abbrev pub HeapsAreMoved : Type 0
HeapsAreMoved = (s : StoreState) (to : Range) (hobs : List HobEntry) (at : ℕ)
    → Each (λ hob. (place : ℕ) → body_len (moved_body s to place hob.body) ≡ body_len hob.body) hobs
    → spelled (half s to (all_done s)) at hobs ≡ hobs_bytes (migrated_to s to) at (moved_hobs s to at hobs)

-- a number is shifted once: what was shifted is shifted no more
abbrev pub ShiftsAreOnce : Type 0
ShiftsAreOnce = (s : StoreState) (to : Range) (n : ℕ) → IsStoreState s → s.moved ≡ false → s.planned ≡ Some to
    → moved_number s to (moved_number s to n) ≡ moved_number s to n
