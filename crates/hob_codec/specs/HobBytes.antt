-- The bytes of a hand-off block: type, length and 4 reserved bytes, then its fields. PI 1.8, volume 3, `EFI_HOB_GENERIC_HEADER`. Numbers are little-endian; a body is padded with zeros to a multiple of 8.
use Rattle.std.specs.Prelude.{ℕ, ◌+◌, ◌-◌, ◌*◌, ◌/◌, List, [], ◌∷◌, ◌++◌, length, replicate, nat_le, if◌then◌else◌, Option, Some, None, flat_map}
use Rattle.pi_base.specs.Field.{little_bytes}
use Rattle.hob_codec.specs.HobValue.{HobValue, HandoffHob, AllocationHob, ResourceHob, NamedHob, VolumeHob, CpuHob, PoolHob, Volume2Hob, OtherHob, kind_of}

-- the least multiple of 8 from here on
abbrev pub padded_len : ℕ → ℕ
padded_len len = (len + 7) / 8 * 8

-- the zeros after so many bytes of a body
abbrev pub padding : ℕ → List ℕ
padding len = replicate (padded_len len - len) 0

-- the length with the header
abbrev pub length_of : HobValue → ℕ
length_of (HandoffHob handoff) = 56
length_of (AllocationHob name base len memory_type) = 48
length_of (ResourceHob owner kind attributes start len) = 48
length_of (NamedHob name body) = 24 + padded_len (length body)
length_of (VolumeHob base len) = 24
length_of (CpuHob memory io) = 16
length_of (PoolHob body) = 8 + padded_len (length body)
length_of (Volume2Hob base len volume file) = 56
length_of (OtherHob kind body) = 8 + padded_len (length body)

-- the fields after the header, in order; a hand-off begins with its Version, 9
abbrev pub fields_of : HobValue → List (List ℕ)
fields_of (HandoffHob h) = little_bytes 4 9 ∷ little_bytes 4 h.boot_mode ∷ little_bytes 8 h.top ∷ little_bytes 8 h.bottom ∷ little_bytes 8 h.free_top ∷ little_bytes 8 h.free_bottom ∷ little_bytes 8 h.end ∷ []
fields_of (AllocationHob name base len memory_type) = name ∷ little_bytes 8 base ∷ little_bytes 8 len ∷ little_bytes 4 memory_type ∷ replicate 4 0 ∷ []
fields_of (ResourceHob owner kind attributes start len) = owner ∷ little_bytes 4 kind ∷ little_bytes 4 attributes ∷ little_bytes 8 start ∷ little_bytes 8 len ∷ []
fields_of (NamedHob name body) = name ∷ body ∷ padding (length body) ∷ []
fields_of (VolumeHob base len) = little_bytes 8 base ∷ little_bytes 8 len ∷ []
fields_of (CpuHob memory io) = (memory ∷ io ∷ []) ∷ replicate 6 0 ∷ []
fields_of (PoolHob body) = body ∷ padding (length body) ∷ []
fields_of (Volume2Hob base len volume file) = little_bytes 8 base ∷ little_bytes 8 len ∷ volume ∷ file ∷ []
fields_of (OtherHob kind body) = body ∷ padding (length body) ∷ []

-- one after another
abbrev pub joined : List (List ℕ) → List ℕ
joined fields = flat_map (λ field. field) fields

-- the header's fields
abbrev pub header_fields : ℕ → ℕ → List (List ℕ)
header_fields kind len = little_bytes 2 kind ∷ little_bytes 2 len ∷ replicate 4 0 ∷ []

-- all bytes of a HOB
abbrev pub hob_bytes : HobValue → List ℕ
hob_bytes hob = joined (header_fields (kind_of hob) (length_of hob) ++ fields_of hob)

-- the length, if it does not pass the greatest
abbrev pub hob_len : HobValue → Option ℕ
hob_len hob = if nat_le (length_of hob) 65528 then Some (length_of hob) else None
