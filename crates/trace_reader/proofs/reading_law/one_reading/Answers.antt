use Rattle.trace_reader.proofs.OneReading.{text_one, one_trace, one_bad_line, trace_or_bad}
use Rattle.trace_reader.proofs.reading_law.one_reading.Goals as goal

pub returns-clause-lines : goal.returns-clause-lines
returns-clause-lines c = text_one

pub returns-clause-traces : goal.returns-clause-traces
returns-clause-traces c = one_trace

pub returns-clause-bad : goal.returns-clause-bad
returns-clause-bad c = one_bad_line

pub returns-clause-apart : goal.returns-clause-apart
returns-clause-apart c = trace_or_bad
