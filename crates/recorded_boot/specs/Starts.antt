-- The starts of a boot, in order, as its lines print them: each by its phase, the volume of its module and the name of its file. PI 1.8, volume 1, "PEI
-- Dispatcher", and volume 2, "DXE Dispatcher".
use Rattle.std.specs.Prelude.{◌≡◌, ℕ, List, ◌++◌, Option, Some, None, flat_map, option_to_list}
use Rattle.pi_base.specs.{declared.phase.Phase.Phase, declared.phase.Phase.TheVariants.Pei, declared.phase.Phase.TheVariants.Dxe}
use Rattle.mod_catalog.specs.{declared.catalogue.Catalog.Catalog, Parts.module_name, Parts.module_volume}
use Rattle.boot_model.specs.declared.line.Line.{Line}
use Rattle.boot_model.specs.declared.line.Line.TheVariants as L
use Rattle.recorded_boot.specs.declared.order.line.Start.{Start}

-- the start of a module in a phase
abbrev pub module_start : Phase → Catalog → ℕ → Start
module_start phase catalog number = record { phase = phase; volume = module_volume catalog number; name = module_name catalog number }

-- the start that a line prints, if it is a start line
abbrev pub start_of : Line → Option Start
start_of (L.PeiStart volume name licence) = Some (record { phase = Pei; volume = volume; name = name })
start_of (L.DxeStart volume name licence) = Some (record { phase = Dxe; volume = volume; name = name })
start_of _ = None

-- the starts that lines print
abbrev pub starts : List Line → List Start
starts lines = flat_map (λ line. option_to_list (start_of line)) lines

-- these starts come first of all
abbrev pub ComeFirst : List Start → List Start → Type 0
ComeFirst front all = (rest : List Start) × (all ≡ front ++ rest)
