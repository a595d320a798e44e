-- What is at a place of a volume: a dead header, or a file that is skipped, a pad or listed.
-- (PI 1.8, volume 3, the firmware file system.)
use Rattle.std.specs.Prelude.{ℕ, ◌+◌, ◌-◌, List, [], ◌∷◌, length, take, drop, slice_index, Option, Some, None, Result, Ok, Err, if◌then◌else◌, not, ◌==◌}
use Rattle.fv_volume.specs.declared.file_header.TheConstants.{HEADER_LEN, STATE_AT}
use Rattle.fv_volume.specs.{declared.file_type.TheConstants.PAD, declared.item.Item.Item, declared.item.ItemKind.ItemKind}
use Rattle.fv_volume.specs.declared.item.ItemKind.TheVariants.{Dead, Skipped, Pad, Listed}
use Rattle.fv_volume.specs.{declared.file.FfsFile.FfsFile, declared.file_header.FileHeader.FileHeader}
use Rattle.fv_volume.specs.{declared.file_state.FileState.FileState, declared.volume_header.Format.Format, declared.fault.VolCause.VolCause}
use Rattle.fv_volume.specs.declared.fault.VolCause.TheVariants.{FileSum, FileSize, DataSum}
use Rattle.fv_volume.specs.FileState.{file_state, is_dead, is_whole}
use Rattle.fv_volume.specs.FileHeader.{file_header, header_sum, size_is_wrong, data_is_wrong}

-- the file of a header at a place
abbrev pub file_of : ℕ → FileHeader → FfsFile
file_of at header = record { at = at; name = header.name; kind = header.kind; body_at = at + header.len; body_len = header.size - header.len }

-- the body of a header's file at a place
abbrev pub body_of : List ℕ → ℕ → FileHeader → List ℕ
body_of image at header = take (header.size - header.len) (drop (at + header.len) image)

-- the item of a header at a place whose sum and size are right, or the cause
abbrev pub sound_item : List ℕ → ℕ → FileState → FileHeader → Result Item VolCause
sound_item image at state header =
    if not (is_whole state) then Ok (record { kind = Skipped; end = at + header.size })
    else if data_is_wrong header (body_of image at header) then Err DataSum
    else if header.kind == PAD then Ok (record { kind = Pad; end = at + header.size })
    else Ok (record { kind = Listed (file_of at header); end = at + header.size })

-- the item of a header at a place, or the first cause
abbrev pub item_of : List ℕ → Format → ℕ → FileState → FileHeader → Result Item VolCause
item_of image format at state header =
    if not (header_sum (take header.len (drop at image)) == 0) then Err FileSum
    else if size_is_wrong format (length image - at) header then Err FileSize
    else sound_item image at state header

abbrev pub item_or_cause : List ℕ → Format → ℕ → FileState → Option FileHeader → Result Item VolCause
item_or_cause image format at state None = Err FileSize
item_or_cause image format at state (Some header) = item_of image format at state header

-- the item at a place, or the first cause
abbrev pub item_at : List ℕ → Format → ℕ → Result Item VolCause
item_at image format at =
    let state = file_state format.erased (slice_index image (at + STATE_AT)) in
    if is_dead state then Ok (record { kind = Dead; end = at + HEADER_LEN })
    else item_or_cause image format at state (file_header image format at)

-- the file of an item that is listed
abbrev pub listed_of : ItemKind → List FfsFile
listed_of (Listed file) = file ∷ []
listed_of _ = []
