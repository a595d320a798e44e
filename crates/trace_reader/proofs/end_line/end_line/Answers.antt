use Rattle.boot_model.specs.Text.{keyword}
use Rattle.trace_reader.proofs.end_line.end_line.Goals as goal

pub returns-clause-none : goal.returns-clause-none
unfolding keyword
returns-clause-none c = λ none. record {
  frame = λ status is. c.in_default.ensures (record { value = status }, tt) ((tt, tt), is.1);
  pei_stop = λ is. c.in_default-fields_after.ensures tt (tt, is.1);
  dxe_stop = λ is. c.in_default-fields_after-2.ensures tt (tt, is.1);
  waiting = λ volume name reason is. c.in_default-fields_after-3.ensures (volume, (name, (record { value = reason }, tt))) ((is.0.0, (is.0.1, (tt, tt))), is.1);
  handoff = λ address is. c.in_default-fields_after-4.ensures (record { 0 = address }, tt) ((is.0, tt), is.1);
  outcome = λ outcome is. c.in_default-fields_after-5.ensures (record { value = outcome }, tt) ((tt, tt), is.1);
}
