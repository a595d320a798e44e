use Rattle.pi_base.proofs.FieldLaws.{little_bytes-little_number, little_number-little_bytes}
use Rattle.pi_base.proofs.field.little_endian.Goals as goal

pub returns-clause-spelled : goal.returns-clause-spelled
returns-clause-spelled c = little_bytes-little_number

pub returns-clause-read : goal.returns-clause-read
returns-clause-read c = little_number-little_bytes
