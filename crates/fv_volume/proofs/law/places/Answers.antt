use Rattle.std.proofs.Common.{arith}
use Rattle.fv_volume.proofs.Standing.{volume_some, volume_len, volume_within, volume_inside, volume_in_order}
use Rattle.fv_volume.proofs.law.places.Goals as goal

pub returns-clause-len : goal.returns-clause-len
returns-clause-len c = λ bytes volume v. omega (arith, v.2, volume_len bytes v.0 v.1)

pub returns-clause-inside : goal.returns-clause-inside
returns-clause-inside c = λ bytes volume v. volume_inside bytes volume v

pub returns-clause-in_order : goal.returns-clause-in_order
returns-clause-in_order c = λ bytes volume v. volume_in_order bytes volume v

pub returns-clause-some : goal.returns-clause-some
returns-clause-some c = λ bytes volume v. omega (arith, v.2, volume_some bytes v.0 v.1)

pub returns-clause-within : goal.returns-clause-within
returns-clause-within c = λ bytes volume v. volume_within bytes volume v
