-- Modules by volume and file name. PI 1.8, volume 3, "Firmware File System", has the file name in the file header, and requires the names of a volume to
-- differ; a catalogue may still have twins.
use Rattle.std.specs.Prelude.{◌≡◌, ◌<◌, ℕ, List, Option, Some, slice_get, length, option_and_then}
use Rattle.pi_base.specs.{declared.guid.Guid.Guid, Lists.Each, GuidMap.value_of}
use Rattle.line_words.specs.PrintedWords.{IsGuid}
use Rattle.mod_catalog.specs.{declared.catalogue.Catalog.Catalog, Parts.module_name, Parts.module_volume}

-- each file name is a GUID
abbrev pub AreGuids : Catalog → Type 0
AreGuids catalog = Each (λ m. IsGuid m.name) catalog.modules

-- the module of this number is in the volume and has the file name
pub record IsNamed (catalog : Catalog) (volume : ℕ) (name : Guid) (number : ℕ) : Type 0 where
  pub is_module : number < length catalog.modules
  pub in_volume : module_volume catalog number ≡ volume
  pub of_name : module_name catalog number ≡ name

-- two modules of the volume have one file name
pub record HasTwins (catalog : Catalog) (volume : ℕ) : Type 0 where
  pub name : Guid
  pub first : ℕ
  pub second : ℕ
  pub apart : first < second
  pub first_is : IsNamed catalog volume name first
  pub second_is : IsNamed catalog volume name second

-- no volume has twins
abbrev pub HasNoTwins : Catalog → Type 0
HasNoTwins catalog = (volume : ℕ) → HasTwins catalog volume → ⊥

-- the first volume that has twins
pub record IsFirstWithTwins (catalog : Catalog) (volume : ℕ) : Type 0 where
  pub twins : HasTwins catalog volume
  pub first : (other : ℕ) → other < volume → HasTwins catalog other → ⊥

-- the number that is kept for a volume and a file name
abbrev pub number_in : List (List (Guid × ℕ)) → ℕ → Guid → Option ℕ
number_in maps volume name = option_and_then (λ map. value_of map name) (slice_get maps volume)

-- what is kept is of the first so many modules: each of them, and no other
pub record AreNames (catalog : Catalog) (count : ℕ) (maps : List (List (Guid × ℕ))) : Type 0 where
  pub volumes : length maps ≡ length catalog.volumes
  pub found : (volume : ℕ) (name : Guid) (number : ℕ) → number_in maps volume name ≡ Some number → IsNamed catalog volume name number × (number < count)
  pub kept : (volume : ℕ) (name : Guid) (number : ℕ) → number < count → IsNamed catalog volume name number → number_in maps volume name ≡ Some number
