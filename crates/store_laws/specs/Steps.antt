-- The steps that services are made of: each makes one HOB, if there is room for it, and what holds of every state still holds. Own.
use Rattle.std.specs.Prelude.{◌≡◌, ◌≢◌, ℕ, ◌+◌, ◌≤◌}
use Rattle.store_model.specs.{declared.store_handle.Desc.Desc, declared.store_handle.DescKind.DescKind}
use Rattle.store_model.specs.declared.store_handle.DescKind.TheVariants.{Ppi, Dispatch}
use Rattle.store_model.specs.{declared.state.HobEntry.HobEntry, Service.Notify.with_note}
use Rattle.store_model.specs.StoreState.{StoreState, appended, free, hob_len}
use Rattle.store_model.specs.StateFacts.{IsStoreState, IsHobEntry, IsDescOf, IsDescriptorAt}
use Rattle.store_model.specs.Service.Install.{node_need, renamed, with_node, with_pending, with_ppi}
use Rattle.store_laws.specs.{Bodies.IsGrown, Keeping.IsWord}

-- a state with so many bytes free, and one after it with so many bytes less
pub record HasRoom (s : StoreState) (need : ℕ) : Type 0 where
  pub state : IsStoreState s
  pub room : need ≤ free s

pub record IsStep (s t : StoreState) (need : ℕ) : Type 0 where
  pub state : IsStoreState t
  pub bodies : IsGrown s t
  pub free_is : free t + need ≡ free s

-- the two descriptors of a pair that is queued
pub record IsPair (s : StoreState) (pair : ℕ × ℕ) : Type 0 where
  pub ppi : IsDescriptorAt s Ppi pair.0
  pub note : IsDescriptorAt s Dispatch pair.1

pub record StepsKeepFacts : Type 0 where
  pub hob : (s : StoreState) (hob : HobEntry) → HasRoom s (hob_len hob) → IsHobEntry s.board s.taken hob
      → IsStep s (appended s hob) (hob_len hob)
  pub node : (s : StoreState) → HasRoom s (node_need 1) → IsStep s (with_node s) (node_need 1)
  pub ppi : (s : StoreState) (by : ℕ) (d : Desc) → HasRoom s (node_need 1) → IsDescOf s Ppi d → IsWord by
      → IsStep s (with_ppi by s d) (node_need 1)
  pub note : (s : StoreState) (kind : DescKind) (by : ℕ) (d : Desc) → HasRoom s (node_need 1) → kind ≢ Ppi → IsDescOf s kind d → IsWord by
      → IsStep s (with_note by s d) (node_need 1)
  pub pending : (s : StoreState) (by : ℕ) (pair : ℕ × ℕ) → HasRoom s (node_need 1) → IsPair s pair → IsWord by
      → IsStep s (with_pending by s pair) (node_need 1)
  pub rename : (s : StoreState) (old new : Desc) → IsStoreState s → IsDescOf s Ppi new
      → IsStoreState (record s { ppis = renamed s.ppis old.offset new.offset })
