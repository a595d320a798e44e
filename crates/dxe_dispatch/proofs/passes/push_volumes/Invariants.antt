use Rattle.std.proofs.Common.{◌≡◌, ◌++◌, drop, flat_map}
use Rattle.dxe_dispatch.specs.Passes.{in_types}
use Rattle.dxe_dispatch.proofs.passes.push_volumes.Given as goal

-- those of the volumes that are left complete the drivers
abbrev pub invariant-volumes : goal.invariant-volumes
invariant-volumes l = l.drivers ++ flat_map (in_types l.catalog) (drop l.volume-index l.volumes) ≡ l.fn.drivers ++ flat_map (in_types l.catalog) l.fn.volumes
