-- Starts of modules that have no script (own): they return at once, and nothing of them is run.
use Rattle.std.specs.Prelude.{ℕ, Bool, false, ◌&&◌, ◌==◌, length, Option, Some, None}
use Rattle.std.specs.List.{list_any}
use Rattle.pi_base.specs.{declared.guid.Guid.Guid, declared.phase.Phase.Phase, Guids.same_guid}
use Rattle.pi_base.specs.declared.phase.Phase.TheVariants.{Pei, Dxe}
use Rattle.mod_catalog.specs.{declared.catalogue.Part.Part, declared.catalogue.Module.Module, declared.catalogue.Catalog.Catalog}

-- a part is there and has no script, which is one without blocks
abbrev pub is_scriptless : Option Part → Bool
is_scriptless None = false
is_scriptless (Some part) = length part.script.blocks == 0

-- what a module has for a phase
abbrev pub part_in : Phase → Module → Option Part
part_in Pei entry = entry.pei
part_in Dxe entry = entry.dxe

-- a module has this volume and name
abbrev pub is_module : ℕ → Guid → Module → Bool
is_module volume name entry = (entry.volume == volume) && same_guid entry.name name

-- a module has this volume and name, and a part for the phase without a script
abbrev pub is_silent : Phase → ℕ → Guid → Module → Bool
is_silent phase volume name entry = is_module volume name entry && is_scriptless (part_in phase entry)

-- some module of a catalogue has this volume and name, and no script for the phase
abbrev pub has_no_script : Catalog → Phase → ℕ → Guid → Bool
has_no_script catalog phase volume name = list_any (is_silent phase volume name) catalog.modules
