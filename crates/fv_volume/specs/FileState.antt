-- The state of a file. (PI 1.8, volume 3, file integrity and state.)
use Rattle.std.specs.Prelude.{ℕ, Bool, true, false, if◌then◌else◌, bit_xor}
use Rattle.fv_volume.specs.declared.file_state.TheConstants.{HEADER_CONSTRUCTION, HEADER_VALID, DATA_VALID, MARKED_FOR_UPDATE, DELETED, HEADER_INVALID}
use Rattle.fv_volume.specs.{declared.file_state.FileState.FileState, Bits.is_set}
use Rattle.fv_volume.specs.declared.file_state.FileState.TheVariants.{Blank, HeaderConstruction, HeaderValid, DataValid, MarkedForUpdate, Deleted, HeaderInvalid}

-- the state of the highest bit that is set
abbrev pub state_of_bits : ℕ → FileState
state_of_bits bits =
    if is_set bits HEADER_INVALID then HeaderInvalid
    else if is_set bits DELETED then Deleted
    else if is_set bits MARKED_FOR_UPDATE then MarkedForUpdate
    else if is_set bits DATA_VALID then DataValid
    else if is_set bits HEADER_VALID then HeaderValid
    else if is_set bits HEADER_CONSTRUCTION then HeaderConstruction
    else Blank

-- a bit is set if the State byte differs there from an erased one
abbrev pub file_state : ℕ → ℕ → FileState
file_state erased byte = state_of_bits (bit_xor byte erased)

-- the header never became valid, or is no longer
abbrev pub is_dead : FileState → Bool
is_dead Blank = true
is_dead HeaderConstruction = true
is_dead HeaderInvalid = true
is_dead _ = false

-- header and body are valid
abbrev pub is_whole : FileState → Bool
is_whole DataValid = true
is_whole MarkedForUpdate = true
is_whole _ = false
