use Rattle.boot_io.proofs.ReadLemmas.{read_more}
use Rattle.boot_io.proofs.reading.read_on.Goals as goal

pub returns-in-Ok-clause-read : goal.returns-in-Ok-clause-read
returns-in-Ok-clause-read g c =
    let left = g.R.Read.remaining in
    read_more (left c.args.reader.now) (left c.reads.reader) (left c.read_to_end.new.self) c.args.bytes.now.items c.reads.bytes.items c.read_to_end.new.buf.items
    c.reads.invariant c.in-Ok.ensures.appends c.in-Ok.ensures.none_lost

pub reads-preserved : goal.reads-preserved
reads-preserved g c =
    let left = g.R.Read.remaining in
    read_more (left c.args.reader.now) (left c.reads.reader) (left c.read_to_end.new.self) c.args.bytes.now.items c.reads.bytes.items c.read_to_end.new.buf.items
    c.reads.invariant c.in-Err.ensures.appends c.in-Err.ensures.none_lost

pub returns-in-Err-2-clause-read : goal.returns-in-Err-2-clause-read
returns-in-Err-2-clause-read g c =
    let left = g.R.Read.remaining in
    read_more (left c.args.reader.now) (left c.reads.reader) (left c.read_to_end.new.self) c.args.bytes.now.items c.reads.bytes.items c.read_to_end.new.buf.items
    c.reads.invariant c.in-Err.ensures.appends c.in-Err.ensures.none_lost

pub returns-in-Err-3-clause-read : goal.returns-in-Err-3-clause-read
returns-in-Err-3-clause-read g c =
    let left = g.R.Read.remaining in
    read_more (left c.args.reader.now) (left c.reads.reader) (left c.read_to_end.new.self) c.args.bytes.now.items c.reads.bytes.items c.read_to_end.new.buf.items
    c.reads.invariant c.in-Err.ensures.appends c.in-Err.ensures.none_lost
