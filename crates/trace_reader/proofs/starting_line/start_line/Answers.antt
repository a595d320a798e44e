use Rattle.boot_model.specs.Text.{keyword}
use Rattle.trace_reader.proofs.starting_line.start_line.Goals as goal

pub returns-clause-none : goal.returns-clause-none
unfolding keyword
returns-clause-none c = λ none. record {
  report = λ volume is. c.in_default.ensures (volume, tt) ((is.0, tt), is.1);
  dxe_volume = λ volume is. c.in_default-fields_after.ensures (volume, tt) ((is.0, tt), is.1);
  pei_start = λ volume name licence is. c.in_default-fields_after-2.ensures (volume, (name, (record { value = licence }, tt))) ((is.0.0, (is.0.1, (tt, tt))), is.1);
  dxe_start = λ volume name licence is. c.in_default-fields_after-3.ensures (volume, (name, (record { value = licence }, tt))) ((is.0.0, (is.0.1, (tt, tt))), is.1);
}
