-- The modules that have no script for a phase, found by volume and name (own).
use Rattle.std.specs.Prelude.{◌≡◌, ℕ, Bool, ◌&&◌, ◌==◌, List}
use Rattle.std.specs.List.{list_any}
use Rattle.indexmap.specs.IndexSet.{IndexSet, contains_by}
use Rattle.pi_base.specs.{declared.guid.Guid.Guid, declared.phase.Phase.Phase, Guids.same_guid}
use Rattle.pi_base.specs.declared.phase.Phase.TheVariants.{Pei, Dxe}
use Rattle.mod_catalog.specs.{declared.catalogue.Module.Module, declared.catalogue.Catalog.Catalog}
use Rattle.program_edge.specs.{declared.scriptless.ModuleName.ModuleName, declared.scriptless.Scriptless.Scriptless, Starts.is_silent}

-- a module has this volume and name
abbrev pub is_named : ℕ → Guid → ModuleName → Bool
is_named volume name noted = (volume == noted.volume) && same_guid name noted.name

-- a module of this volume and name is noted
abbrev pub has_name : {S : Type 0} → IndexSet ModuleName S → ℕ → Guid → Bool
has_name names volume name = contains_by (is_named volume name) names

-- the modules that have a part for the phase without a script are noted, and no others
abbrev pub AreScriptless : {S : Type 0} → Phase → List Module → IndexSet ModuleName S → Type 0
AreScriptless phase modules names = (volume : ℕ) (name : Guid) → has_name names volume name ≡ list_any (is_silent phase volume name) modules

-- so for both phases of a catalogue
abbrev pub AreOf : Catalog → Scriptless → Type 0
AreOf catalog all = AreScriptless Pei catalog.modules all.peims × AreScriptless Dxe catalog.modules all.drivers
