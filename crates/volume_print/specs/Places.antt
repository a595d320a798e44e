-- Where the files of a volume stand, and the pad files that bring them there where they are built again (own).
use Rattle.std.specs.Prelude.{ℕ, ◌+◌, ◌-◌, ◌/◌, ◌≤◌, ◌≡◌, ◌⊎◌, ⊤, zero, suc, nat_lt, if◌then◌else◌, List, [], ◌∷◌, length, map, take, drop}
use Rattle.pi_base.specs.Guids.{guid_at}
use Rattle.fv_volume.specs.{declared.file.FfsFile.FfsFile, declared.file_header.TheConstants.HEADER_LEN as FILE_HEADER_LEN}
use Rattle.fv_volume.specs.{declared.file_type.TheConstants.PAD, Frame.aligned, Attributes.plain_attributes}
use Rattle.fv_volume.specs.{declared.build.file_system.FileSystem.FileSystem, declared.build.new_file.NewFile.NewFile}
use Rattle.fv_volume.specs.{declared.build.new_file.Body.TheVariants.Bytes, Files.bytes_in, Files.file_size}
use Rattle.volume_print.specs.declared.pad.TheConstants.{LONG_PAD}

-- where a file stands in its volume, and how many bytes it takes where it is built
pub record Room : Type 0 where
  pub at : ℕ
  pub len : ℕ

-- the room of a file that was found, by what is told of it
abbrev pub room_of : FileSystem → FfsFile → NewFile → Room
room_of file_system found file = record { at = found.at; len = file_size file_system (length (bytes_in file_system file.body)) }

-- the rooms of files in their order
abbrev pub rooms : FileSystem → List FfsFile → List NewFile → List Room
rooms file_system [] files = []
rooms file_system (found ∷ others) [] = []
rooms file_system (found ∷ others) (file ∷ files) = room_of file_system found file ∷ rooms file_system others files

-- the bytes from a place to another one
abbrev pub between : List ℕ → ℕ → ℕ → List ℕ
between bytes from to = take (to - from) (drop from bytes)

-- a pad file as long as a piece of a stretch: its name and its body are the bytes that stand there
abbrev pub pad_of : List ℕ → NewFile
pad_of piece = record { name = guid_at piece 0; kind = PAD; attributes = plain_attributes; body = Bytes (drop FILE_HEADER_LEN piece) }

-- so many long pieces of a stretch, and what is left
abbrev pub pieces : ℕ → List ℕ → List (List ℕ)
pieces zero stretch = stretch ∷ []
pieces (suc long) stretch = take LONG_PAD stretch ∷ pieces long (drop LONG_PAD stretch)

-- the pad files that fill a stretch: none where it is shorter than a file's header, or one for each of as many long pieces as leave such a header's bytes,
-- and one for what is left
abbrev pub pads_in : List ℕ → List NewFile
pads_in stretch =
    if nat_lt (length stretch) FILE_HEADER_LEN then []
    else map pad_of (pieces ((length stretch - FILE_HEADER_LEN) / LONG_PAD) stretch)

-- where a file stands that may stand from a place on: where it stood, if pads fill the stretch up to there, and else at once
abbrev pub stands : ℕ → ℕ → ℕ
stands from at = if nat_lt (at - from) FILE_HEADER_LEN then from else at

-- the least place behind it
abbrev pub behind : ℕ → Room → ℕ
behind from room = aligned (stands from room.at + room.len)

-- the least place behind files that stand from a place on
abbrev pub behind_all : ℕ → List Room → ℕ
behind_all from [] = from
behind_all from (room ∷ rooms) = behind_all (behind from room) rooms

-- the pads in front of each of the files that stand from a place of the bytes on: they fill the stretch up to where the file stood
abbrev pub pads_before : List ℕ → ℕ → List Room → List (List NewFile)
pads_before bytes from [] = []
pads_before bytes from (room ∷ rooms) = pads_in (between bytes from room.at) ∷ pads_before bytes (behind from room) rooms

-- where each of them stands
abbrev pub places : ℕ → List Room → List ℕ
places from [] = []
places from (room ∷ rooms) = stands from room.at ∷ places (behind from room) rooms

-- each file begins where the one before it ends, or leaves at least the bytes of a file's header before it
abbrev pub LeaveRoom : ℕ → List Room → Type 0
LeaveRoom from [] = ⊤
LeaveRoom from (room ∷ rooms) = ((room.at ≡ from) ⊎ (from + FILE_HEADER_LEN ≤ room.at)) × LeaveRoom (aligned (room.at + room.len)) rooms
