-- In each machine of a run a driver with SOR that no module requested waits, unless its volume's a priori list has it. So the driver that `Schedule()` requests
-- is found by its name in the discovered order, without the queue. PI 1.8, volume 2, `Schedule()` and "A Priori File".
use Rattle.std.specs.Prelude.{◌≡◌, ℕ, ◌&&◌, true, is_none, find}
use Rattle.pi_base.specs.{declared.guid.Guid.Guid, declared.phase.Phase.TheVariants.Dxe, Guids.same_guid}
use Rattle.mod_catalog.specs.{declared.catalogue.Catalog.Catalog, Parts.rank_at, Parts.module_name, WellFormed.IsWellFormed}
use Rattle.store_model.specs.StoreState.{StoreState}
use Rattle.boot_model.specs.{DxeMachine.DxeMachine, DxeAction.unrequested_named, DxeRun.dxe_run, DxeRun.dxe_opening}
use Rattle.boot_model.specs.DxeChoice.{discovered_order, is_waiting, is_unrequested}
use Rattle.boot_model.specs.DriverLicence.{IsDiscovered}

pub record WaitForRequest (catalog : Catalog) (m : DxeMachine) : Type 0 where
  pub wait : (number : ℕ) → IsDiscovered catalog m number → is_unrequested catalog m number ≡ true → is_waiting m number ≡ is_none (rank_at Dxe catalog number)
  pub named : (name : Guid) → unrequested_named catalog m name
      ≡ find (λ number. is_none (rank_at Dxe catalog number) && (is_unrequested catalog m number && same_guid (module_name catalog number) name)) (discovered_order catalog m)

abbrev pub UnrequestedDriversWait : Type 0
UnrequestedDriversWait = (catalog : Catalog) → IsWellFormed catalog → (fuel n : ℕ) (s : StoreState) (actions : ℕ) → WaitForRequest catalog (dxe_run catalog fuel n (dxe_opening catalog s actions))
