-- A HOB is made, after the others. PI 1.8, volume 1, `CreateHob()`.
use Rattle.std.specs.Prelude.{ℕ, ◌+◌, Ok}
use Rattle.hob_codec.specs.HobValue.{HobValue, kind_of}
use Rattle.hob_codec.specs.HobBytes.{length_of, fields_of, joined}
use Rattle.store_model.specs.StoreState.{HobEntry, Bytes, StoreState, appended, end_place}
use Rattle.store_model.specs.Service.{Service, in_room}

-- the entry of a HOB: its type and the bytes of its fields
abbrev pub hob_entry : HobValue → HobEntry
hob_entry hob = record { kind = kind_of hob; body = Bytes (joined (fields_of hob)) }

-- the answer is the HOB's address
abbrev pub create_hob : StoreState → HobValue → Service ℕ
create_hob s hob = in_room s (length_of hob) (Ok (s.base + end_place s, appended s (hob_entry hob)))
