-- A HOB's fields stand behind its header.
use Rattle.std.proofs.Common.{◌≡◌, drop, refl}
use Rattle.hob_codec.specs.HobValue.{HobValue}
use Rattle.hob_codec.specs.HobBytes.{hob_bytes, fields_of, joined}

pub behind_header : (hob : HobValue) → drop 8 (hob_bytes hob) ≡ joined (fields_of hob)
behind_header hob = refl
