use Rattle.std.proofs.Common.{get_or, sym, flat_map, ◌∙◌}
use Rattle.std.proofs.lemmas.Option.{slice_get-get_or}
use Rattle.store_model.specs.declared.store_handle.EntryList.TheVariants.{Ppis}
use Rattle.boot_trace.specs.EntryLines.{list_text}
use Rattle.boot_io.proofs.PutsLaws.{puts_err}
use Rattle.boot_trace.proofs.PutLines.{all_lines, next_line, next_part}
use Rattle.boot_trace.proofs.store_lists.put_lists.Goals as goal

pub returns-in_err-put_list-clause-text : goal.returns-in_err-put_list-clause-text
returns-in_err-put_list-clause-text g c s stands needs =
    let T = g.S.Sink.text in
    let lists = c.args.lists.now in
    let i = c.loop-list.list-index in
    puts_err c.from_residual.result (T c.args.sink.now) (T c.put_list.new.sink) (flat_map (list_text s) lists) c.from_residual.ensures.0
    (next_part (list_text s) lists i (get_or lists i Ppis) (T c.args.sink.now) (T c.loop-list.sink) (T c.put_list.new.sink) (sym (slice_get-get_or lists i Ppis c.loop-list-test.true))
    (c.loop-list.invariant.text s stands) (c.in_err-put_list.ensures.text s stands tt))

pub loop-list-preserved : goal.loop-list-preserved
loop-list-preserved g c =
    let T = g.S.Sink.text in
    let lists = c.args.lists.now in
    let i = c.loop-list.list-index in
    record {
      text = λ s stands.
          next_line (list_text s) lists i (get_or lists i Ppis) (T c.args.sink.now) (T c.loop-list.sink) (T c.put_list.new.sink) (sym (slice_get-get_or lists i Ppis c.loop-list-test.true))
          (c.loop-list.invariant.text s stands) (c.in_ok-put_list.ensures.text s stands tt);
      count = c.in_ok-put_list.ensures.cause ∙ c.loop-list.invariant.count;
    }

pub returns-clause-text : goal.returns-clause-text
returns-clause-text g c s stands needs =
    let T = g.S.Sink.text in
    all_lines (list_text s) c.args.lists.now c.loop-list.list-index (T c.args.sink.now) (T c.loop-list.sink) c.loop-list-test.false (c.loop-list.invariant.text s stands)
