use Rattle.boot_model.specs.Text.{keyword}
use Rattle.trace_reader.proofs.move_line.move_line.Goals as goal

pub returns-clause-none : goal.returns-clause-none
unfolding keyword
returns-clause-none c = λ none. record {
  migrate = λ from to is. c.in_default.ensures (record { 0 = from }, (record { 0 = to }, tt)) ((is.0.0, (is.0.1, tt)), is.1);
  core_install = λ status is. c.in_default-fields_after.ensures (record { value = status }, tt) ((tt, tt), is.1);
}
