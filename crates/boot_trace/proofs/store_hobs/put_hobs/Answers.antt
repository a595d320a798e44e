use Rattle.std.proofs.Common.{◌≡◌, ℕ, ◌+◌, length, arith, subst}
use Rattle.std.specs.Io.KnownBytes.{Appends}
use Rattle.boot_io.specs.Sink.{AppendsPart}
use Rattle.boot_io.proofs.PutsLaws.{puts_then, part_of_more}
use Rattle.boot_model.specs.declared.line.Line.TheVariants as L
use Rattle.boot_model.specs.{Listing.hob_lines_from, Text.line_text, Text.text_of}
use Rattle.boot_trace.specs.HobLines.{all_hobs}
use Rattle.boot_trace.proofs.store_hobs.put_hobs.Goals as goal

pub returns-in-Ok-clause-text : goal.returns-in-Ok-clause-text
returns-in-Ok-clause-text g c s stands needs =
    let T = g.S.Sink.text in
    let count : c.count_hobs-count.result.hobs ≡ length s.hobs + 1 = omega (arith, (c.count_hobs-count.ensures.row s stands tt).hobs_are) in
    let P : ℕ → Type 0 = λ count. Appends (T c.args.sink.now) (T c.put_made.new.sink) (line_text (L.Hobs count)) in
    puts_then c.put_hob_lines.result (T c.args.sink.now) (T c.put_made.new.sink) (T c.put_hob_lines.new.sink) (line_text (L.Hobs (length s.hobs + 1))) (text_of (hob_lines_from s 0 (all_hobs s)))
    (subst P count c.in-Ok.ensures.text) (c.put_hob_lines.ensures.text s stands tt)

pub returns-in-Err-clause-text : goal.returns-in-Err-clause-text
returns-in-Err-clause-text g c s stands needs =
    let T = g.S.Sink.text in
    let count : c.count_hobs-count.result.hobs ≡ length s.hobs + 1 = omega (arith, (c.count_hobs-count.ensures.row s stands tt).hobs_are) in
    let P : ℕ → Type 0 = λ count. AppendsPart (T c.args.sink.now) (T c.put_made.new.sink) (line_text (L.Hobs count)) in
    part_of_more (T c.args.sink.now) (T c.put_made.new.sink) (line_text (L.Hobs (length s.hobs + 1))) (text_of (hob_lines_from s 0 (all_hobs s))) (subst P count c.in-Err.ensures.text)
