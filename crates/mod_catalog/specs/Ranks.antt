-- The files that names refer to, and the names of an a priori list that are kept, as they are looked up.
use Rattle.std.specs.Prelude.{◌≡◌, ℕ, ◌+◌, ◌≤◌, Bool, ◌&&◌, if◌then◌else◌, List, [], ◌∷◌, length, filter, position, slice_index_or, is_some, Option, Some, None}
use Rattle.pi_base.specs.{Guids.same_guid, Lists.firsts, declared.guid.Guid.Guid, declared.phase.Phase.Phase, GuidMap.value_of}
use Rattle.fv_volume.specs.{declared.file.FfsFile.FfsFile, declared.search.TheConstants.MOST_FILES}
use Rattle.mod_catalog.specs.{APrioriNames.kept_names, FileType.has_part, declared.ranks.Bearer.Bearer, declared.ranks.Ranks.Ranks}
use Rattle.mod_catalog.specs.declared.ranks.Kept.{Kept}

-- the first file of a name with a part for the phase, of files of which the first has this index
abbrev pub bearer_from : Phase → Guid → ℕ → List FfsFile → Option Bearer
bearer_from phase name index [] = None
bearer_from phase name index (file ∷ files) =
    if same_guid file.name name && has_part phase file.kind then Some (record { index = index; at = file.at }) else bearer_from phase name (index + 1) files

-- each name has the file that it refers to
abbrev pub AreBearers : Phase → ℕ → List FfsFile → List (Guid × Bearer) → Type 0
AreBearers phase index files bearers = (name : Guid) → value_of bearers name ≡ bearer_from phase name index files

-- they are those of so many files, which a volume may have
abbrev pub AreOfSome : List (Guid × Bearer) → ℕ → Type 0
AreOfSome bearers count = (phase : Phase) × (files : List FfsFile) × AreBearers phase 0 files bearers × (length files ≡ count) × (count ≤ MOST_FILES)

-- whether a name refers to a file
abbrev pub known : List (Guid × Bearer) → Guid → Bool
known bearers name = is_some (value_of bearers name)

-- the names of a list that refer to a file, each once
abbrev pub kept_of : (Guid → Bool) → List Guid → List Guid
kept_of known list = firsts same_guid (filter known list)

-- the file that a name refers to has the place of the name among some, if it is there
abbrev pub ArePlaces : List (Guid × Bearer) → List Guid → List (Option ℕ) → Type 0
ArePlaces bearers names places =
    (name : Guid) (bearer : Bearer) → value_of bearers name ≡ Some bearer → slice_index_or places bearer.index None ≡ position (same_guid name) names

pub record AreKept (bearers : List (Guid × Bearer)) (list : List Guid) (kept : Kept) : Type 0 where
  pub places : ArePlaces bearers (kept_of (known bearers) list) kept.places
  pub count : kept.count ≡ length (kept_of (known bearers) list)

pub record HoldRanks (phase : Phase) (files : List FfsFile) (list : List Guid) (ranks : Ranks) : Type 0 where
  pub bearers : AreBearers phase 0 files ranks.bearers
  pub places : ArePlaces ranks.bearers (kept_names phase files list) ranks.places

-- the ranks that a list gives; an empty list gives none
abbrev pub GiveRanks : Phase → List FfsFile → List Guid → Option Ranks → Type 0
GiveRanks phase files list None = list ≡ []
GiveRanks phase files list (Some ranks) = HoldRanks phase files list ranks
