use Rattle.std.proofs.Common.{◌≡◌, ◌++◌, drop}
use Rattle.boot_model.specs.DxeChoice.{drivers_of}
use Rattle.dxe_core.proofs.order.push_drivers.Given as goal

-- the drivers so far, and those of the volumes that are left, make the whole
abbrev pub invariant-volumes : goal.invariant-volumes
invariant-volumes l = record {
  drivers : l.drivers ++ drivers_of l.catalog (drop l.volume-index l.volumes) ≡ l.fn.drivers ++ drivers_of l.catalog l.volumes;
}
