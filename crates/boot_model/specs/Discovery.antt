-- The volumes that DXE discovers: those whose bases are in FV HOBs, each followed by the volumes nested in it, each once; and those that a driver processes. PI
-- 1.8, volume 2, "DXE Dispatcher" and `ProcessFirmwareVolume()`; volume 3, `EFI_HOB_FIRMWARE_VOLUME`.
use Rattle.std.specs.Prelude.{ℕ, List, [], ◌∷◌, ◌++◌, map}
use Rattle.mod_catalog.specs.{declared.catalogue.Catalog.Catalog, Parts.volume_at}
use Rattle.boot_model.specs.{declared.line.Line.Line, Reporting.newcomers}
use Rattle.boot_model.specs.declared.line.Line.TheVariants as L

-- the volumes at these bases that are new, one base after the other
abbrev pub discoveries : Catalog → List ℕ → List ℕ → List ℕ
discoveries catalog known [] = []
discoveries catalog known (base ∷ bases) =
    newcomers catalog known (volume_at catalog base) ++ discoveries catalog (known ++ newcomers catalog known (volume_at catalog base)) bases

-- a line for each volume that is discovered
abbrev pub discovery_lines : List ℕ → List Line
discovery_lines volumes = map (λ volume. L.DxeVolume volume) volumes
