-- The extended header of a volume. (PI 1.8, volume 3, `EFI_FIRMWARE_VOLUME_EXT_HEADER`.)
use Rattle.std.specs.Prelude.{ℕ, ◌+◌, List, drop, Option, Some, None, Result, Ok, Err, if◌then◌else◌, ◌==◌, nat_lt}
use Rattle.pi_base.specs.{Field.little_number, declared.guid.TheConstants.GUID_LEN, Guids.guid_at}
use Rattle.fv_volume.specs.{declared.volume_header.TheConstants.EXT_HEADER_OFFSET_AT, declared.extended_header.TheConstants.EXT_HEADER_LEN}
use Rattle.fv_volume.specs.{declared.volume_header.VolumeHeader.VolumeHeader, declared.extended_header.ExtendedHeader.ExtendedHeader}
use Rattle.fv_volume.specs.{declared.fault.VolFault.VolFault, declared.fault.VolCause.TheVariants.ExtHeader}

-- the extended header is not at a valid place
abbrev pub misplaced : Result (Option ExtendedHeader) VolFault
misplaced = Err (record { at = EXT_HEADER_OFFSET_AT; cause = ExtHeader })

-- the extended header of a place and ExtHeaderSize: after the header and inside FvLength
abbrev pub extended_with : List ℕ → VolumeHeader → ℕ → ℕ → Result (Option ExtendedHeader) VolFault
extended_with bytes header at size =
    if at == 0 then Ok None
    else if nat_lt at header.header_len then misplaced
    else if nat_lt header.len (at + EXT_HEADER_LEN) then misplaced
    else if nat_lt size EXT_HEADER_LEN then misplaced
    else if nat_lt header.len (at + size) then misplaced
    else Ok (Some (record { name = guid_at bytes at; end = at + size }))

abbrev pub extended_header : List ℕ → VolumeHeader → Result (Option ExtendedHeader) VolFault
extended_header bytes header = extended_with bytes header header.ext_header_at (little_number 4 (drop (header.ext_header_at + GUID_LEN) bytes))
