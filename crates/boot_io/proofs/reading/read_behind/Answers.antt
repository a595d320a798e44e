use Rattle.std.specs.Io.Take.{take_remaining}
use Rattle.boot_io.proofs.ReadLemmas.{begins_taken, failed}
use Rattle.boot_io.proofs.reading.read_behind.Goals as goal

pub returns-in-Err : goal.returns-in-Err
returns-in-Err g c =
    let left = g.R.Read.remaining in
    let read = c.in-Err.ensures.read in
    failed c.in-Err.fault (left c.args.reader) c.args.limit c.args.bytes.now.items c.read_on.new.bytes.items c.in-Err.ensures.fault
    (read.0, read.1, begins_taken left c.take.result c.args.reader (take_remaining left c.read_on.new.reader) read.0 c.take.ensures.inner read.2)
