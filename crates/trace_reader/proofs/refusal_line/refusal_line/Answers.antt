use Rattle.boot_model.specs.Text.{keyword}
use Rattle.trace_reader.proofs.refusal_line.refusal_line.Goals as goal

pub returns-clause-none : goal.returns-clause-none
unfolding keyword
returns-clause-none c = λ none. record {
  usage = λ is. c.in_default.ensures tt (tt, is.1);
  plan = λ line cause is. c.in_default-fields_after.ensures (line, (record { value = cause }, tt)) ((is.0, (tt, tt)), is.1);
  image = λ volume at cause is. c.in_default-fields_after-2.ensures (volume, (record { 0 = at }, (record { value = cause }, tt))) ((is.0.0, (is.0.1, (tt, tt))), is.1);
}
