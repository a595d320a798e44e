use Rattle.std.proofs.Common.{ap, sym}
use Rattle.hob_codec.specs.HobReading.{behind}
use Rattle.hob_codec.proofs.read.read_at.Goals as goal

pub returns-in-Some-clause-read : goal.returns-in-Some-clause-read
returns-in-Some-clause-read c = ap (λ fault. behind fault c.args.bytes.now c.args.at) (sym c.in-Some.ensures.fault)
