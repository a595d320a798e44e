use Rattle.std.proofs.Common.{ap, ◌∙◌, subst, length}
use Rattle.std.specs.Io.KnownBytes.{Appends}
use Rattle.boot_io.specs.Sink.{AppendsPart}
use Rattle.boot_io.proofs.PutsLaws.{puts_err, puts_then, part_of_more}
use Rattle.boot_model.specs.{declared.line.Line.Line, Text.line_text, Text.text_of}
use Rattle.store_model.specs.Service.Reading.{told_of}
use Rattle.boot_trace.specs.EntryLines.{count_line, entry_lines, list_text}
use Rattle.boot_trace.proofs.store_lists.put_list.Goals as goal

pub returns-clause-text : goal.returns-clause-text
returns-clause-text g c s stands needs =
    let T = g.S.Sink.text in
    let P : Line → Type 0 = λ line. Appends (T c.args.sink.now) (T c.put_made.new.sink) (line_text line) in
    let count = subst P (c.count_line.ensures ∙ ap (count_line c.args.list) (c.entry_count-count.ensures.row s stands tt)) c.in_ok-put_made.ensures.text in
    puts_then c.put_entries.result (T c.args.sink.now) (T c.put_made.new.sink) (T c.put_entries.new.sink) (line_text (count_line c.args.list (length (told_of s c.args.list)))) (text_of (entry_lines s c.args.list))
    count (c.put_entries.ensures.text s stands tt)

pub returns-in_err-put_made-clause-text : goal.returns-in_err-put_made-clause-text
returns-in_err-put_made-clause-text g c s stands needs =
    let T = g.S.Sink.text in
    let P : Line → Type 0 = λ line. AppendsPart (T c.args.sink.now) (T c.put_made.new.sink) (line_text line) in
    let part = subst P (c.count_line.ensures ∙ ap (count_line c.args.list) (c.entry_count-count.ensures.row s stands tt)) c.in_err-put_made.ensures.text in
    puts_err c.from_residual.result (T c.args.sink.now) (T c.put_made.new.sink) (list_text s c.args.list) c.from_residual.ensures.0
    (part_of_more (T c.args.sink.now) (T c.put_made.new.sink) (line_text (count_line c.args.list (length (told_of s c.args.list)))) (text_of (entry_lines s c.args.list)) part)
