use Rattle.std.proofs.Common.{◌≡◌, ◌≤◌, ◌++◌, drop, length}
use Rattle.boot_model.specs.{DriverLicence.numbers_of, DxeChoice.a_priori_drivers}
use Rattle.dxe_dispatch.proofs.passes.push_a_priori.Given as goal

-- those of the volumes that are left complete the queue
abbrev pub invariant-volumes : goal.invariant-volumes
invariant-volumes l = record {
  more : l.items ++ numbers_of (a_priori_drivers l.catalog (drop l.volume-index l.volumes)) ≡ l.fn.items ++ numbers_of (a_priori_drivers l.catalog l.fn.volumes);
  longer : length l.fn.items ≤ length l.items;
}
