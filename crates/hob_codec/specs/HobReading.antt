-- A hand-off block that is read at a place, or the first fault there, in the order Short, Length, Form. PI 1.8, volume 3.
use Rattle.std.specs.Prelude.{ℕ, ◌+◌, ◌-◌, ◌%◌, ◌&&◌, ◌||◌, not, nat_lt, nat_le, ◌==◌, if◌then◌else◌, List, ◌++◌, length, take, drop, slice_index, Option, Some, None, Result, Ok, Err}
use Rattle.pi_base.specs.{Field.little_number, Guids.guid_at}
use Rattle.hob_codec.specs.{declared.fault.HobFault.HobFault, HobBytes.padding}
use Rattle.hob_codec.specs.declared.fault.HobFault.TheVariants.{Short, Length, Form}
use Rattle.hob_codec.specs.declared.kind.TheConstants.{HANDOFF, ALLOCATION, RESOURCE, NAMED, VOLUME, CPU, POOL, VOLUME2, END}
use Rattle.hob_codec.specs.HobValue.{HobValue, HandoffHob, AllocationHob, ResourceHob, NamedHob, VolumeHob, CpuHob, PoolHob, Volume2Hob, OtherHob}

-- the number of so many bytes at a place of a body
abbrev pub number_at : ℕ → ℕ → List ℕ → ℕ
number_at n at body = little_number n (drop at body)

-- the fields of a body
abbrev pub handoff_of : List ℕ → HobValue
handoff_of body = HandoffHob (record {
  boot_mode = number_at 4 4 body;
  top = number_at 8 8 body;
  bottom = number_at 8 16 body;
  free_top = number_at 8 24 body;
  free_bottom = number_at 8 32 body;
  end = number_at 8 40 body;
})

abbrev pub allocation_of : List ℕ → HobValue
allocation_of body = AllocationHob (guid_at body 0).0 (number_at 8 16 body) (number_at 8 24 body) (number_at 4 32 body)

abbrev pub resource_of : List ℕ → HobValue
resource_of body = ResourceHob (guid_at body 0).0 (number_at 4 16 body) (number_at 4 20 body) (number_at 8 24 body) (number_at 8 32 body)

abbrev pub volume2_of : List ℕ → HobValue
volume2_of body = Volume2Hob (number_at 8 0 body) (number_at 8 8 body) (guid_at body 16).0 (guid_at body 32).0

-- the value, if the body has this length
abbrev pub of_length : ℕ → List ℕ → HobValue → Option HobValue
of_length len body hob = if length body == len then Some hob else None

-- the HOB with this type and body; if there is none, the fault is Form
abbrev pub hob_of : ℕ → List ℕ → Option HobValue
hob_of kind body =
    if kind == HANDOFF then (if (length body == 48) && (number_at 4 0 body == 9) then Some (handoff_of body) else None)
    else if kind == ALLOCATION then of_length 40 body (allocation_of body)
    else if kind == RESOURCE then of_length 40 body (resource_of body)
    else if kind == NAMED then (if nat_le 16 (length body) then Some (NamedHob (guid_at body 0).0 (drop 16 body)) else None)
    else if kind == VOLUME then of_length 16 body (VolumeHob (number_at 8 0 body) (number_at 8 8 body))
    else if kind == CPU then of_length 8 body (CpuHob (slice_index body 0) (slice_index body 1))
    else if kind == POOL then Some (PoolHob body)
    else if kind == VOLUME2 then of_length 48 body (volume2_of body)
    else if kind == END then of_length 0 body (OtherHob END body)
    else Some (OtherHob kind body)

-- the type and the length in the header at a place
abbrev pub kind_at : List ℕ → ℕ → ℕ
kind_at bytes at = little_number 2 (drop at bytes)

abbrev pub length_at : List ℕ → ℕ → ℕ
length_at bytes at = little_number 2 (drop (at + 2) bytes)

-- the bytes between the header at a place and the next place
abbrev pub body_at : List ℕ → ℕ → List ℕ
body_at bytes at = take (length_at bytes at - 8) (drop (at + 8) bytes)

-- the header holds a length that there is
abbrev pub header_fault : List ℕ → ℕ → Option HobFault
header_fault bytes at =
    if nat_lt (length bytes - at) 8 then Some Short
    else if (nat_lt (length_at bytes at) 8 || not (length_at bytes at % 8 == 0)) || nat_lt (length bytes - at) (length_at bytes at) then Some Length
    else None

-- the HOB with the place after it, or the fault Form
abbrev pub formed : Option HobValue → ℕ → Result (HobValue × ℕ) HobFault
formed None next = Err Form
formed (Some hob) next = Ok (hob, next)

-- after a header that is sound
abbrev pub behind : Option HobFault → List ℕ → ℕ → Result (HobValue × ℕ) HobFault
behind (Some fault) bytes at = Err fault
behind None bytes at = formed (hob_of (kind_at bytes at) (body_at bytes at)) (at + length_at bytes at)

-- what reading at an offset gives
abbrev pub reading : List ℕ → ℕ → Result (HobValue × ℕ) HobFault
reading bytes at = behind (header_fault bytes at) bytes at

-- a HOB with its body padded, as it is read again
abbrev pub padded : HobValue → HobValue
padded (NamedHob name body) = NamedHob name (body ++ padding (length body))
padded (PoolHob body) = PoolHob (body ++ padding (length body))
padded (OtherHob kind body) = OtherHob kind (body ++ padding (length body))
padded (HandoffHob handoff) = HandoffHob handoff
padded (AllocationHob name base len memory_type) = AllocationHob name base len memory_type
padded (ResourceHob owner kind attributes start len) = ResourceHob owner kind attributes start len
padded (VolumeHob base len) = VolumeHob base len
padded (CpuHob memory io) = CpuHob memory io
padded (Volume2Hob base len volume file) = Volume2Hob base len volume file
