-- Modules without a script, volume of the plan by volume (own). The numbers of volumes follow each other: a volume of the plan, those nested in it, and then
-- the next one of the plan. What is noted of an image is by its own catalogue, in which they are numbered from 0.
use Rattle.std.specs.Prelude.{◌≡◌, ℕ, ◌-◌, Bool, false, nat_lt, if◌then◌else◌, List, [], ◌∷◌, length, map, filter, is_some}
use Rattle.pi_base.specs.{declared.guid.Guid.Guid, declared.phase.Phase.Phase}
use Rattle.pi_base.specs.declared.phase.Phase.TheVariants.{Pei, Dxe}
use Rattle.boot_plan.specs.declared.plan.Plan.{Plan}
use Rattle.mod_catalog.specs.{declared.catalogue.Catalog.Catalog, declared.catalogue.Module.Module, Catalogue.IsCatalogue}
use Rattle.boot_model.specs.{declared.line.Line.Line, declared.line.Line.TheVariants.PeiStart, declared.line.Line.TheVariants.DxeStart}
use Rattle.program_edge.specs.{declared.noted_volumes.NotedVolume.NotedVolume, Scriptless.AreOf, Starts.has_no_script}

-- the volume of each driver, which is a module that has a part for DXE
abbrev pub driver_volumes : List Module → List ℕ
driver_volumes modules = map (λ entry. entry.volume) (filter (λ entry. is_some entry.dxe) modules)

-- what is noted is of a catalogue
abbrev pub IsNotedOf : Catalog → NotedVolume → Type 0
IsNotedOf catalog noted =
    (noted.count ≡ length catalog.volumes) × AreOf catalog noted.scriptless × (noted.drivers ≡ driver_volumes catalog.modules)

-- it is of the catalogue of an image alone
abbrev pub IsNoted : List ℕ → NotedVolume → Type 0
IsNoted image noted = (plan : Plan) × (catalog : Catalog) × IsCatalogue plan (image ∷ []) catalog × IsNotedOf catalog noted

-- what is noted of several images is of these catalogues
abbrev pub AreNotedOf : List Catalog → List NotedVolume → Type 0
AreNotedOf [] [] = Unit {0}
AreNotedOf [] (noted ∷ others) = ⊥
AreNotedOf (catalog ∷ catalogs) [] = ⊥
AreNotedOf (catalog ∷ catalogs) (noted ∷ others) = IsNotedOf catalog noted × AreNotedOf catalogs others

-- a module of this volume has no script for the phase
abbrev pub lacks_script : List Catalog → Phase → ℕ → Guid → Bool
lacks_script [] phase volume name = false
lacks_script (catalog ∷ rest) phase volume name =
    if nat_lt volume (length catalog.volumes) then has_no_script catalog phase volume name else lacks_script rest phase (volume - length catalog.volumes) name

-- a line is the start of such a module
abbrev pub starts_scriptless : List Catalog → Line → Bool
starts_scriptless catalogs (PeiStart volume name licence) = lacks_script catalogs Pei volume name
starts_scriptless catalogs (DxeStart volume name licence) = lacks_script catalogs Dxe volume name
starts_scriptless catalogs _ = false
