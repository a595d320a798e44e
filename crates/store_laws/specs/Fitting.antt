-- What of a state fits, beyond what is said of it outright: descriptors, addresses of the heap, and counts.
-- Own.
use Rattle.std.specs.Prelude.{◌≡◌, ℕ, ◌+◌, ◌<◌, ◌≤◌, ◌^◌, length, Some, IfSome}
use Rattle.boot_plan.specs.declared.limits.TheConstants.{MOST_END, MOST_RAM}
use Rattle.store_model.specs.{declared.state.Body.TheVariants.Descriptor, declared.state.DescriptorBody.DescriptorBody}
use Rattle.pi_base.specs.Lists.{Each}
use Rattle.store_model.specs.{declared.state.HobEntry.HobEntry, HeapImage.body_bytes, HeapImage.descriptor_bytes, StateFacts.IsStoreState}
use Rattle.store_model.specs.StoreState.{StoreState, body_at, body_len, descriptor_len}

-- a descriptor's GUID has sixteen bytes, wherever it is; its address and the number fit 64 bits; and it spells as many bytes as it has
pub record IsFittingDescriptor (d : DescriptorBody) : Type 0 where
  pub guid : length d.guid.0 ≡ 16
  pub address : IfSome d.stands (λ address. address < 2 ^ 64)
  pub number : d.number < 2 ^ 64
  pub spelled : (base place : ℕ) → length (descriptor_bytes base place d) ≡ descriptor_len d.stands

-- the heap is no longer than RAM may be, and it and the pages end where a plan allows
pub record IsFittingHeap (s : StoreState) : Type 0 where
  pub len : s.len ≤ MOST_RAM
  pub end : s.base + s.len ≤ MOST_END
  pub pages : s.base + s.len ≤ s.page_end
  pub pages_end : s.page_end ≤ MOST_END

-- a HOB's body spells as many bytes as it has, wherever it is
abbrev pub IsSpelled : StoreState → HobEntry → Type 0
IsSpelled s hob = (place : ℕ) → length (body_bytes s place hob.body) ≡ body_len hob.body

pub record StatesFit : Type 0 where
  pub descriptors : (s : StoreState) (place : ℕ) (d : DescriptorBody) → IsStoreState s → body_at s place ≡ Some (Descriptor d)
      → IsFittingDescriptor d
  pub bodies : (s : StoreState) → IsStoreState s → Each (IsSpelled s) s.hobs
  pub hobs : (s : StoreState) → IsStoreState s → length s.hobs < 2 ^ 28
  pub heap : (s : StoreState) → IsStoreState s → IsFittingHeap s
