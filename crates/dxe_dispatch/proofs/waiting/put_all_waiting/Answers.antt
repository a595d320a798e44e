use Rattle.std.proofs.Common.{◌∙◌, get_or, arith}
use Rattle.std.proofs.lemmas.Result.{err_from_is_err_and}
use Rattle.dxe_dispatch.specs.Waiting.{waiting_line}
use Rattle.boot_trace.proofs.Lines.{part_of_each, each_more, each_done}
use Rattle.dxe_dispatch.proofs.waiting.put_all_waiting.Goals as goal

pub returns-in_err-put_waiting-clause-text : goal.returns-in_err-put_waiting-clause-text
returns-in_err-put_waiting-clause-text g c m queue flags =
    let T = g.S.Sink.text in
    let number = get_or c.args.numbers.now c.drivers.number-index 0 in
    let p = err_from_is_err_and c.from_residual.result c.from_residual.ensures.1 in
    rw p.1 (part_of_each (waiting_line c.args.catalog.now m) c.args.numbers.now c.drivers.number-index (T c.args.sink.now) (T c.drivers.sink) (T c.put_waiting.new.sink) c.drivers-test.true
    (c.drivers.invariant.text m queue flags) (c.in_err-put_waiting.ensures.text m (c.is_waiting-waits.ensures ∙ queue.waits number) (c.is_requested-was_requested.ensures ∙ flags number)))

pub drivers-preserved : goal.drivers-preserved
drivers-preserved g c = record {
  text = λ m queue flags.
      let T = g.S.Sink.text in
      let number = get_or c.args.numbers.now c.drivers.number-index 0 in
      each_more (waiting_line c.args.catalog.now m) c.args.numbers.now c.drivers.number-index (T c.args.sink.now) (T c.drivers.sink) (T c.put_waiting.new.sink) c.drivers-test.true
      (c.drivers.invariant.text m queue flags) (c.in_ok-put_waiting.ensures.text m (c.is_waiting-waits.ensures ∙ queue.waits number) (c.is_requested-was_requested.ensures ∙ flags number));
  count = c.in_ok-put_waiting.ensures.cause ∙ c.drivers.invariant.count;
}

pub returns-clause-text : goal.returns-clause-text
returns-clause-text g c m queue flags =
    let T = g.S.Sink.text in
    each_done (waiting_line c.args.catalog.now m) c.args.numbers.now c.drivers.number-index (T c.args.sink.now) (T c.drivers.sink) (omega (arith, c.drivers-test.false)) (c.drivers.invariant.text m queue flags)
