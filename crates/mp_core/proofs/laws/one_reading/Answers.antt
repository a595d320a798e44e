use Rattle.mp_core.proofs.Readings.{one_file, one_line, apart, some_reading}
use Rattle.mp_core.proofs.laws.one_reading.Goals as goal

pub returns : goal.returns
returns c = record {
  files = one_file;
  lines = one_line;
  apart = apart;
  some = some_reading;
}
