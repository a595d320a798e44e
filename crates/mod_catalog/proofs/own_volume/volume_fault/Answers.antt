use Rattle.std.proofs.Common.{◌+◌, ap}
use Rattle.mod_catalog.specs.declared.image_fault.FaultAt.{FaultAt}
use Rattle.mod_catalog.proofs.own_volume.volume_fault.Goals as goal

pub returns-in_default-clause-fault : goal.returns-in_default-clause-fault
returns-in_default-clause-fault c other = ap (λ cause. let found : FaultAt = record { at = c.args.at + c.args.fault.at; cause = cause } in found) c.volume_cause.ensures
