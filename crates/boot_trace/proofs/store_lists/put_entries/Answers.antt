use Rattle.std.proofs.{Common.◌∙◌, Common.arith, lemmas.List.length-map}
use Rattle.store_model.specs.Service.Reading.{told_of}
use Rattle.boot_io.proofs.PutsLaws.{puts_err}
use Rattle.boot_model.specs.Text.{line_text, text_of}
use Rattle.boot_trace.specs.EntryLines.{entry_lines, told_line}
use Rattle.boot_trace.proofs.EntryPlaces.{none_behind, told_at}
use Rattle.boot_trace.proofs.PutLines.{next_line, next_part, all_lines}
use Rattle.boot_trace.proofs.store_lists.put_entries.Goals as goal

pub returns-in_err-put_made-clause-text : goal.returns-in_err-put_made-clause-text
returns-in_err-put_made-clause-text g c s stands needs =
    let T = g.S.Sink.text in
    let at = c.entries.invariant.at s stands in
    let told = told_at c.entries_are_told.ensures s c.args.list c.entries.node c.entries._place c.in-Some.told (g.met.M.PeiStore.facts c.args.store.now s stands) at (c.in-Some.ensures.row s stands at.is_in) in
    puts_err c.from_residual.result (T c.args.sink.now) (T c.put_made.new.sink) (text_of (entry_lines s c.args.list)) c.from_residual.ensures.0
    (next_part line_text (entry_lines s c.args.list) c.entries._place (told_line c.args.list c.in-Some.told) (T c.args.sink.now) (T c.entries.sink) (T c.put_made.new.sink) told.line
    (c.entries.invariant.text s stands) (rw c.told_line.ensures at c.in_err-put_made.ensures.text))

pub entries-preserved : goal.entries-preserved
entries-preserved g c =
    let T = g.S.Sink.text in
    record {
      text = λ s stands.
          let at = c.entries.invariant.at s stands in
          let told = told_at c.entries_are_told.ensures s c.args.list c.entries.node c.entries._place c.in-Some.told (g.met.M.PeiStore.facts c.args.store.now s stands) at (c.in-Some.ensures.row s stands at.is_in) in
          next_line line_text (entry_lines s c.args.list) c.entries._place (told_line c.args.list c.in-Some.told) (T c.args.sink.now) (T c.entries.sink) (T c.put_made.new.sink) told.line
          (c.entries.invariant.text s stands) (rw c.told_line.ensures at c.in_ok-put_made.ensures.text);
      at = λ s stands.
          let at = c.entries.invariant.at s stands in
          (told_at c.entries_are_told.ensures s c.args.list c.entries.node c.entries._place c.in-Some.told (g.met.M.PeiStore.facts c.args.store.now s stands) at (c.in-Some.ensures.row s stands at.is_in)).next;
      count = c.in_ok-put_made.ensures.cause ∙ c.entries.invariant.count;
    }

pub returns-in_default-clause-text : goal.returns-in_default-clause-text
returns-in_default-clause-text g c s stands needs =
    let T = g.S.Sink.text in
    let at = c.entries.invariant.at s stands in
    let none = none_behind c.entries_are_told.ensures s c.args.list c.entries.node c.entries._place at (c.in_default.ensures.row s stands at.is_in) in
    let many = length-map (told_of s c.args.list) (told_line c.args.list) in
    all_lines line_text (entry_lines s c.args.list) c.entries._place (T c.args.sink.now) (T c.entries.sink) (omega (arith, many, none)) (c.entries.invariant.text s stands)

pub returns-clause-text : goal.returns-clause-text
returns-clause-text g c s stands needs =
    let T = g.S.Sink.text in
    let many = length-map (told_of s c.args.list) (told_line c.args.list) in
    let count = c.requires.count s stands tt in
    let past = c.entries-test.false in
    all_lines line_text (entry_lines s c.args.list) c.entries._place (T c.args.sink.now) (T c.entries.sink) (omega (arith, many, count, past)) (c.entries.invariant.text s stands)
