use Rattle.std.proofs.Common.{rules, ◌∙◌, ap}
use Rattle.pi_base.specs.Field.{little_number}
use Rattle.pi_base.proofs.Numbered.{spells}
use Rattle.pi_base.proofs.guid_map.number_of.Goals as goal

pub returns-clause-spelled : goal.returns-clause-spelled
returns-clause-spelled c = spells c.args.guid.now c.read_u128.result c.little_endian.ensures.spelled (search rules) (search rules) (c.read_u128.ensures ∙ ap (little_number 16) c.as_slice-bytes.ensures)
