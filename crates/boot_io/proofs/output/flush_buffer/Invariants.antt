use Rattle.std.specs.{Io.Buffered.writer_contents, Io.KnownBytes.Keeps}
use Rattle.boot_io.proofs.output.flush_buffer.Given as goal

-- nothing was written meanwhile
abbrev pub invariant-flushes : goal.invariant-flushes
invariant-flushes g l = Keeps (writer_contents g.W.Write.contents l.fn.buffer) (writer_contents g.W.Write.contents l.buffer)

abbrev pub decreases-flushes : goal.decreases-flushes
decreases-flushes g l = l.tries
