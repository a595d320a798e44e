-- The modules of a catalogue by their numbers: their parts, blocks and volumes, and the volumes nested in a volume.
-- PI 1.8, volume 3, "Firmware Files"; the numbers are own.
use Rattle.std.specs.Prelude.{ℕ, ◌+◌, Bool, false, ◌==◌, ◌&&◌, if◌then◌else◌, List, [], ◌∷◌, ◌++◌, Option, Some, None, option_map, slice_get, unwrap_or, is_some, replicate, option_and_then}
use Rattle.std.specs.List.{list_any}
use Rattle.pi_base.specs.{declared.guid.Guid.Guid, declared.phase.Phase.Phase}
use Rattle.pi_base.specs.declared.phase.Phase.TheVariants.{Pei, Dxe}
use Rattle.act_code.specs.declared.action.Action.{Action}
use Rattle.mod_catalog.specs.{declared.catalogue.Catalog.Catalog, declared.catalogue.Module.Module}
use Rattle.mod_catalog.specs.{declared.catalogue.VolumeEntry.VolumeEntry, declared.catalogue.Part.Part}

-- whether the number is among these
abbrev pub has_number : List ℕ → ℕ → Bool
has_number list n = list_any (λ other. other == n) list

-- what a module has for a phase
abbrev pub part_of : Phase → Module → Option Part
part_of Pei m = m.pei
part_of Dxe m = m.dxe

-- the part of the module of a number
abbrev pub part_at : Phase → Catalog → ℕ → Option Part
part_at phase catalog number = option_and_then (part_of phase) (slice_get catalog.modules number)

-- its rank in the a priori list of its phase, if it has one
abbrev pub rank_at : Phase → Catalog → ℕ → Option ℕ
rank_at phase catalog number = option_and_then (λ part. part.rank) (part_at phase catalog number)

-- a number that is no module's is never asked for
abbrev pub no_name : Guid
no_name = record { 0 = replicate 16 0 }

-- the file name of a module
abbrev pub module_name : Catalog → ℕ → Guid
module_name catalog number = unwrap_or (option_map (λ m. m.name) (slice_get catalog.modules number)) no_name

-- the volume that a module is in
abbrev pub module_volume : Catalog → ℕ → ℕ
module_volume catalog number = unwrap_or (option_map (λ m. m.volume) (slice_get catalog.modules number)) 0

-- the actions of a block
abbrev pub block_of : Phase → Catalog → ℕ → ℕ → List Action
block_of phase catalog number block = unwrap_or (option_and_then (λ part. slice_get part.script.blocks block) (part_at phase catalog number)) []

-- whether a module of a volume has a part of the phase
abbrev pub is_part_in : Phase → ℕ → Module → Bool
is_part_in phase volume m = m.volume == volume && is_some (part_of phase m)

-- the modules of a volume that have a part of the phase, by place; the first of these modules has this number
abbrev pub parts_from : Phase → ℕ → ℕ → List Module → List ℕ
parts_from phase volume number [] = []
parts_from phase volume number (m ∷ ms) = (if is_part_in phase volume m then number ∷ [] else []) ++ parts_from phase volume (number + 1) ms

-- the same of a catalogue
abbrev pub parts_in : Phase → Catalog → ℕ → List ℕ
parts_in phase catalog volume = parts_from phase volume 0 catalog.modules

-- whether an entry is nested directly in one of these volumes
abbrev pub is_nested_in : List ℕ → Option ℕ → Bool
is_nested_in volumes None = false
is_nested_in volumes (Some parent) = has_number volumes parent

-- these volumes, with each of the entries that is nested in one of them at any depth; the first entry has this number
abbrev pub family_from : List ℕ → ℕ → List VolumeEntry → List ℕ
family_from volumes number [] = volumes
family_from volumes number (entry ∷ entries) = family_from (if is_nested_in volumes entry.parent then volumes ++ number ∷ [] else volumes) (number + 1) entries

-- a volume, and each volume nested in it at any depth, by number
abbrev pub family : Catalog → ℕ → List ℕ
family catalog volume = family_from (volume ∷ []) 0 catalog.volumes

-- the volume that is mapped at an address; the first entry has this number
abbrev pub volume_from : ℕ → ℕ → List VolumeEntry → Option ℕ
volume_from base number [] = None
volume_from base number (entry ∷ entries) = if entry.base == base then Some number else volume_from base (number + 1) entries

-- the same of a catalogue
abbrev pub volume_at : Catalog → ℕ → Option ℕ
volume_at catalog base = volume_from base 0 catalog.volumes
