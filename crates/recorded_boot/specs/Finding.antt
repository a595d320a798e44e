-- How the module of a start is found, and a start among others.
-- Own.
use Rattle.std.specs.Prelude.{◌==◌, ◌&&◌, Bool, List, Option, Some, None}
use Rattle.std.specs.List.{list_any}
use Rattle.pi_base.specs.Guids.{same_guid}
use Rattle.mod_catalog.specs.{declared.catalogue.Catalog.Catalog, declared.catalogue.Part.Part}
use Rattle.recorded_boot.specs.{declared.order.line.AskedStart.AskedStart, declared.order.line.Start.Start, Against.IsModuleOf}
use Rattle.recorded_boot.specs.ByOrder.{same_phase}

-- the part of the module of a start, or there is none
abbrev pub FindsPart : Catalog → Start → Option Part → Type 0
FindsPart catalog start None = (part : Part) → IsModuleOf catalog start part → ⊥
FindsPart catalog start (Some part) = IsModuleOf catalog start part

-- whether two starts are the same
abbrev pub same_start : Start → Start → Bool
same_start one other = same_phase one.phase other.phase && (one.volume == other.volume && same_guid one.name other.name)

abbrev pub is_among_asked : Start → List AskedStart → Bool
is_among_asked start made = list_any (λ (asked : AskedStart). same_start start asked.start) made
