use Rattle.gcd_map.proofs.CommandLines.{commands_same, bad_same, apart, some_reading}
use Rattle.gcd_map.proofs.commands.one_reading.Goals as goal

pub returns : goal.returns
returns c = record {
  commands = commands_same;
  lines = bad_same;
  apart = apart;
  some = some_reading;
}
