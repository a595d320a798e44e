use Rattle.boot_model.specs.Text.{keyword}
use Rattle.trace_reader.proofs.notify_line.notify_line.Goals as goal

pub returns-clause-none : goal.returns-clause-none
unfolding keyword
returns-clause-none c = λ none. record {
  callback = λ volume name fired is. c.in_default.ensures (volume, (name, (fired, tt))) ((is.0.0, (is.0.1, (is.0.2, tt))), is.1);
  dispatch = λ volume name fired is. c.in_default-fields_after.ensures (volume, (name, (fired, tt))) ((is.0.0, (is.0.1, (is.0.2, tt))), is.1);
  protocol = λ volume name fired is. c.in_default-fields_after-2.ensures (volume, (name, (fired, tt))) ((is.0.0, (is.0.1, (is.0.2, tt))), is.1);
}
