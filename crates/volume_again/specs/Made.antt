-- The volume that is made of another one's text, as a reader finds it.
use Rattle.std.specs.Prelude.{◌≡◌, ℕ, ◌+◌, ◌-◌, ⊤, List, [], ◌∷◌, length, map, take, drop, Err}
use Rattle.fv_volume.specs.{declared.volume.Volume.Volume, Frame.aligned, Volume.IsVolume, declared.build.file_system.FileSystem.FileSystem}
use Rattle.fv_volume.specs.{declared.build.new_file.NewFile.NewFile, Reading.AreEach, Reading.IsFileRead, Files.file_bytes}
use Rattle.fv_volume.specs.Front.{first_place}
use Rattle.mod_catalog.specs.declared.limits.TheConstants.{MOST_DEPTH}
use Rattle.volume_text.specs.{declared.fault.Cause.Cause, Open.built_of}
use Rattle.volume_print.specs.Description.{form_in, name_in, pads_of, IsInner, IsTextOf}
use Rattle.volume_print.specs.Places.{Room, rooms, between, pads_in, behind, places, LeaveRoom}
use Rattle.volume_again.specs.Again.{IsFileAgain, SaysAgain}

-- where the files of a volume stand of which this is the text, and what they take
abbrev pub rooms_told : (bytes text : List ℕ) → IsTextOf bytes text → List Room
rooms_told bytes text told = rooms (form_in bytes).file_system told.volume.files told.told.files

-- where the first of them can stand
abbrev pub first_told : (bytes text : List ℕ) → IsTextOf bytes text → ℕ
first_told bytes text told = first_place (form_in bytes) (name_in bytes told.volume.name)

-- files stand in the bytes from a place on, each with all of its bytes at the next multiple of 8
abbrev pub StandIn : FileSystem → List ℕ → ℕ → List NewFile → Type 0
StandIn file_system bytes from [] = ⊤
StandIn file_system bytes from (file ∷ files) =
    let own = file_bytes file_system file in
    (take (length own) (drop (aligned from) bytes) ≡ own) × StandIn file_system bytes (aligned from + length own) files

-- in front of each file the pads stand again at the offset at which their names and their bodies stood
abbrev pub PadsStand : FileSystem → (bytes again : List ℕ) → ℕ → List Room → Type 0
PadsStand file_system bytes again from [] = ⊤
PadsStand file_system bytes again from (room ∷ rooms) =
    StandIn file_system again from (pads_in (between bytes from room.at)) × PadsStand file_system bytes again (behind from room) rooms

-- a reader finds a volume of the same form, length and name, the name at the same place, and the same files, each where its pads bring it: at the same offset, where each stretch
-- in front of a file is none or has room for a pad; and what fills that stretch has the names and the bodies that stood there
pub record IsMadeAgain (bytes text : List ℕ) (told : IsTextOf bytes text) (again : List ℕ) : Type 0 where
  pub volume : Volume
  pub is_volume : IsVolume again volume
  pub form_is : form_in again ≡ form_in bytes
  pub len_is : volume.len ≡ told.volume.len
  pub long : length again ≡ told.volume.len
  pub name_is : volume.name ≡ told.volume.name
  pub place_is : name_in again volume.name ≡ name_in bytes told.volume.name
  pub files : List NewFile
  pub files_are : AreEach (IsFileAgain (IsInner (MOST_DEPTH - 1))) told.told.files files
  pub are_read : AreEach (IsFileRead again) files volume.files
  pub stand : map (λ file. file.at) volume.files ≡ places (first_told bytes text told) (rooms_told bytes text told)
  pub kept : LeaveRoom (first_told bytes text told) (rooms_told bytes text told) → map (λ file. file.at) volume.files ≡ map (λ file. file.at) told.volume.files
  pub pads : PadsStand (form_in bytes).file_system bytes again (first_told bytes text told) (rooms_told bytes text told)

-- the text says the volume that it is printed of, its files behind their pads, which have the names and the bodies that stand there
abbrev pub SaysItself : (bytes text : List ℕ) → IsTextOf bytes text → Type 0
SaysItself bytes text told =
    let files = told.told.files in
    SaysAgain (IsInner (MOST_DEPTH - 1)) (form_in bytes) told.volume.len (name_in bytes told.volume.name) (pads_of bytes told.volume files) files text

-- the volume that the text says cannot be built
abbrev pub CannotBeBuilt : (bytes text : List ℕ) → IsTextOf bytes text → Type 0
CannotBeBuilt bytes text told = (says : SaysItself bytes text told) × ((cause : Cause) × (built_of says.volume ≡ Err cause))
