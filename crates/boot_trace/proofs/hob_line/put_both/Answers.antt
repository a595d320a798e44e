use Rattle.boot_io.proofs.PutsLaws.{puts_then, part_of_more}
use Rattle.boot_trace.proofs.hob_line.put_both.Goals as goal

pub returns-in-Ok-clause-text : goal.returns-in-Ok-clause-text
returns-in-Ok-clause-text g c =
    let T = g.S.Sink.text in
    puts_then c.put-in-Ok.result (T c.args.sink.now) (T c.put.new.self) (T c.put-in-Ok.new.self) c.args.first.now c.args.second.now c.in-Ok.ensures.text c.put-in-Ok.ensures.text

pub returns-in-Err-clause-text : goal.returns-in-Err-clause-text
returns-in-Err-clause-text g c =
    let T = g.S.Sink.text in
    part_of_more (T c.args.sink.now) (T c.put.new.self) c.args.first.now c.args.second.now c.in-Err.ensures.text
