use Rattle.std.proofs.Common.{◌≡◌, drop}
use Rattle.dxe_core.specs.Requests.{first_down}
use Rattle.dxe_core.proofs.schedule.first_down.Given as goal

abbrev pub invariant-drivers : goal.invariant-drivers
invariant-drivers l = record {
  first : first_down l.catalog l.requested (drop l.number-index l.asking) ≡ first_down l.catalog l.requested l.asking;
}
