-- Why each volume's parent must come before it: a catalogue whose one volume is nested in itself discovers it twice, and its a priori driver starts twice.
use Rattle.std.proofs.Common.{◌≡◌, ℕ, [], ◌∷◌, Some, None, refl, replicate}
use Rattle.pi_base.specs.declared.phase.Phase.TheVariants.{Dxe}
use Rattle.hob_codec.specs.declared.kind.TheConstants.{VOLUME}
use Rattle.mod_catalog.specs.{FileType.DRIVER as FILE_DRIVER, declared.catalogue.Catalog.Catalog, declared.catalogue.Module.Module}
use Rattle.mod_catalog.specs.declared.catalogue.PartExpr.TheVariants.{Absent}
use Rattle.store_model.specs.declared.state.Body.TheVariants.{Bytes}
use Rattle.store_model.specs.StoreState.{Board, StoreState, empty_store}
use Rattle.boot_model.specs.DxeRun.{dxe_run, dxe_opening, dxe_end}

-- a driver of rank 0 that does nothing
abbrev idle : Module
idle = record {
  volume = 0;
  at = 72;
  name = record { 0 = replicate 16 0 };
  kind = FILE_DRIVER;
  pei = None;
  dxe = Some (record { rank = Some 0; expr = Absent; script = record { phase = Dxe; blocks = [] } });
}

-- a volume at 0 that is nested in itself, with so many of them
abbrev nested : ℕ → Catalog
nested count = record { volumes = record { base = 0; len = 4096; name = None; parent = Some 0 } ∷ []; modules = replicate count idle }

-- a store with one HOB, which tells of the volume
abbrev store_of : Board → StoreState
store_of board = record (empty_store board) { hobs = record { kind = VOLUME; body = Bytes (replicate 16 0) } ∷ [] }

starts_twice : (board : Board) → (dxe_run (nested 1) 0 2 (dxe_opening (nested 1) (store_of board) 0)).started ≡ 0 ∷ 0 ∷ []
starts_twice board = refl

-- and with 66 of them a run takes more steps than are counted
passes_the_bound : (board : Board) → (dxe_end (nested 66) 0 (store_of board) 0).ended ≡ None
passes_the_bound board = refl
