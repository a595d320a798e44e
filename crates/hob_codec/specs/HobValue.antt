-- The hand-off blocks of PI 1.8, volume 3, as values: each with its fields in the order of the standard. A body is the bytes after the fields.
use Rattle.std.specs.Prelude.{◌≡◌, ◌⊎◌, ℕ, ◌<◌, ◌^◌, List, length}
use Rattle.hob_codec.specs.declared.hob.Handoff.{Handoff}
use Rattle.hob_codec.specs.declared.kind.TheConstants.{HANDOFF, ALLOCATION, RESOURCE, NAMED, VOLUME, CPU, POOL, VOLUME2, END}

pub data HobValue : Type 0 where
  HandoffHob : Handoff → HobValue
  AllocationHob : (name : List ℕ) (base length memory_type : ℕ) → HobValue
  ResourceHob : (owner : List ℕ) (kind attributes start length : ℕ) → HobValue
  NamedHob : (name body : List ℕ) → HobValue
  VolumeHob : (base length : ℕ) → HobValue
  CpuHob : (memory io : ℕ) → HobValue
  PoolHob : (body : List ℕ) → HobValue
  Volume2Hob : (base length : ℕ) (volume file : List ℕ) → HobValue
  OtherHob : (kind : ℕ) (body : List ℕ) → HobValue

-- the type
abbrev pub kind_of : HobValue → ℕ
kind_of (HandoffHob handoff) = HANDOFF
kind_of (AllocationHob name base length memory_type) = ALLOCATION
kind_of (ResourceHob owner kind attributes start length) = RESOURCE
kind_of (NamedHob name body) = NAMED
kind_of (VolumeHob base length) = VOLUME
kind_of (CpuHob memory io) = CPU
kind_of (PoolHob body) = POOL
kind_of (Volume2Hob base length volume file) = VOLUME2
kind_of (OtherHob kind body) = kind

-- the types of the table
abbrev pub IsKnown : ℕ → Type 0
IsKnown kind = (kind ≡ HANDOFF) ⊎ ((kind ≡ ALLOCATION) ⊎ ((kind ≡ RESOURCE) ⊎ ((kind ≡ NAMED) ⊎ ((kind ≡ VOLUME) ⊎ ((kind ≡ CPU) ⊎ ((kind ≡ POOL) ⊎ ((kind ≡ VOLUME2) ⊎ (kind ≡ END))))))))

-- the fields fit theirs, and no other HOB has a type of the table
abbrev pub IsHob : HobValue → Type 0
IsHob (HandoffHob h) = (h.boot_mode < 2 ^ 32) × (h.top < 2 ^ 64) × (h.bottom < 2 ^ 64) × (h.free_top < 2 ^ 64) × (h.free_bottom < 2 ^ 64) × (h.end < 2 ^ 64)
IsHob (AllocationHob name base length_ memory_type) = (length name ≡ 16) × (base < 2 ^ 64) × (length_ < 2 ^ 64) × (memory_type < 2 ^ 32)
IsHob (ResourceHob owner kind attributes start length_) = (length owner ≡ 16) × (kind < 2 ^ 32) × (attributes < 2 ^ 32) × (start < 2 ^ 64) × (length_ < 2 ^ 64)
IsHob (NamedHob name body) = length name ≡ 16
IsHob (VolumeHob base length_) = (base < 2 ^ 64) × (length_ < 2 ^ 64)
IsHob (CpuHob memory io) = (memory < 256) × (io < 256)
IsHob (PoolHob body) = Unit {0}
IsHob (Volume2Hob base length_ volume file) = (base < 2 ^ 64) × (length_ < 2 ^ 64) × (length volume ≡ 16) × (length file ≡ 16)
IsHob (OtherHob kind body) = (kind < 2 ^ 16) × (IsKnown kind → ⊥)
