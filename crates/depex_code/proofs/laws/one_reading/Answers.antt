use Rattle.depex_code.proofs.OneReading.{one_read, one_malformed, read_or_malformed}
use Rattle.depex_code.proofs.SomeReading.{some_reading}
use Rattle.depex_code.proofs.laws.one_reading.Goals as goal

pub returns : goal.returns
returns c = record { read = one_read; malformed = one_malformed; apart = read_or_malformed; some = some_reading }
