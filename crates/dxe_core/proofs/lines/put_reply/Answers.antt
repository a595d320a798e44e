use Rattle.boot_io.proofs.PutsLaws.{part_of_more, puts_err, puts_then}
use Rattle.std.proofs.Common.{◌∷◌}
use Rattle.boot_model.specs.{Discovery.discovery_lines, Text.line_text, Text.text_of}
use Rattle.dxe_core.proofs.lines.put_reply.Goals as goal

pub returns-in_err-put_made-clause-text : goal.returns-in_err-put_made-clause-text
returns-in_err-put_made-clause-text g c =
    let T = g.S.Sink.text in
    let line = line_text c.args.call in
    let rest = text_of (discovery_lines c.args.volumes.now) in
    puts_err c.from_residual.result (T c.args.sink.now) (T c.put_made.new.sink) (text_of (c.args.call ∷ discovery_lines c.args.volumes.now)) c.from_residual.ensures.0
    (part_of_more (T c.args.sink.now) (T c.put_made.new.sink) line rest c.in_err-put_made.ensures.text)

pub returns-clause-text : goal.returns-clause-text
returns-clause-text g c =
    let T = g.S.Sink.text in
    puts_then c.put_volumes.result (T c.args.sink.now) (T c.put_made.new.sink) (T c.put_volumes.new.sink) (line_text c.args.call) (text_of (discovery_lines c.args.volumes.now)) c.in_ok-put_made.ensures.text c.put_volumes.ensures.text
