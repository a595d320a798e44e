-- The a priori list of a phase, and the ranks that it gives (PI 1.8, volume 1, "A Priori File", and volume 2; own for a name that is unknown or comes again).
use Rattle.std.specs.Prelude.{ℕ, ◌*◌, ◌/◌, if◌then◌else◌, ◌&&◌, List, [], length, map, filter, find, position, Option, None, is_some, option_map, unwrap_or, option_and_then}
use Rattle.pi_base.specs.{Guids.same_guid, Guids.guid_at, Lists.numbers, Lists.firsts, declared.guid.Guid.Guid}
use Rattle.pi_base.specs.{declared.guid.TheConstants.GUID_LEN, declared.phase.Phase.Phase}
use Rattle.fv_volume.specs.{declared.file.FfsFile.FfsFile, declared.sections.section_type.TheConstants.RAW}
use Rattle.mod_catalog.specs.FileType.{has_part}
use Rattle.mod_catalog.specs.ReadFile.{ReadFile, a_priori_file, is_file, first_body}

-- the GUIDs in a body, one after the other; a rest of fewer than sixteen bytes is not one
abbrev pub guids_in : List ℕ → List Guid
guids_in body = map (λ index. guid_at body (GUID_LEN * index)) (numbers 0 (length body / GUID_LEN))

-- the list: the GUIDs in the first raw section of the a priori file
abbrev pub a_priori_list : List ℕ → List FfsFile → List ReadFile → Phase → List Guid
a_priori_list bytes files reads phase =
    unwrap_or (option_map guids_in (option_and_then (λ read. first_body bytes RAW read.file read.sections) (find (λ read. is_file (a_priori_file phase files) read.file) reads))) []

-- the file that a GUID of the list refers to: the first of that name with a part for the phase
abbrev pub bearer : Phase → List FfsFile → Guid → Option FfsFile
bearer phase files name = find (λ file. same_guid file.name name && has_part phase file.kind) files

-- the names that are kept: those that refer to a file, each once
abbrev pub kept_names : Phase → List FfsFile → List Guid → List Guid
kept_names phase files list = firsts same_guid (filter (λ name. is_some (bearer phase files name)) list)

-- a file's rank: the place of its name among them, if the name refers to it
abbrev pub rank_of : Phase → List FfsFile → List Guid → FfsFile → Option ℕ
rank_of phase files list file =
    if is_file (bearer phase files file.name) file then position (same_guid file.name) (kept_names phase files list) else None
