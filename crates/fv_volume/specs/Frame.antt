-- What the headers of a volume say together. (PI 1.8, volume 3, firmware volumes.)
use Rattle.std.specs.Prelude.{ℕ, ◌+◌, ◌-◌, ◌*◌, ◌/◌, List, length, Option, Some, None, Result, Ok, Err, if◌then◌else◌, nat_lt}
use Rattle.fv_volume.specs.{declared.volume_header.TheConstants.LEAST_HEADER_LEN, declared.frame.TheConstants.ALIGNMENT}
use Rattle.fv_volume.specs.{declared.volume_header.VolumeHeader.VolumeHeader, declared.extended_header.ExtendedHeader.ExtendedHeader}
use Rattle.fv_volume.specs.{declared.frame.Frame.Frame, declared.fault.VolFault.VolFault, declared.fault.VolCause.TheVariants.Short}
use Rattle.fv_volume.specs.VolumeHeader.{volume_header, header_fault, format_of}
use Rattle.fv_volume.specs.ExtendedHeader.{extended_header}

-- the least place from here on at which a file may begin
abbrev pub aligned : ℕ → ℕ
aligned n = (n + (ALIGNMENT - 1)) / ALIGNMENT * ALIGNMENT

-- the search begins after the extended header, or after the header if there is none
abbrev pub frame_with : VolumeHeader → Option ExtendedHeader → Frame
frame_with header None = record { len = header.len; name = None; start = aligned header.header_len; format = format_of header }
frame_with header (Some extended) = record { len = header.len; name = Some extended.name; start = aligned extended.end; format = format_of header }

abbrev pub frame_or_fault : VolumeHeader → Option VolFault → Result (Option ExtendedHeader) VolFault → Result Frame VolFault
frame_or_fault header (Some fault) extended = Err fault
frame_or_fault header None (Err fault) = Err fault
frame_or_fault header None (Ok extended) = Ok (frame_with header extended)

-- the frame, or the first fault of the headers
abbrev pub frame_of : List ℕ → Result Frame VolFault
frame_of bytes =
    let header = volume_header bytes in
    if nat_lt (length bytes) LEAST_HEADER_LEN then Err (record { at = 0; cause = Short })
    else frame_or_fault header (header_fault bytes header) (extended_header bytes header)
