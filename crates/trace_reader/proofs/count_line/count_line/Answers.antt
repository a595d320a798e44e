use Rattle.boot_model.specs.Text.{keyword}
use Rattle.trace_reader.proofs.count_line.count_line.Goals as goal

pub returns-clause-none : goal.returns-clause-none
unfolding keyword
returns-clause-none c = λ none. record {
  ppis = λ count is. c.in_default.ensures (count, tt) ((is.0, tt), is.1);
  callbacks = λ count is. c.in_default-fields_after.ensures (count, tt) ((is.0, tt), is.1);
  dispatches = λ count is. c.in_default-fields_after-2.ensures (count, tt) ((is.0, tt), is.1);
  pendings = λ count is. c.in_default-fields_after-3.ensures (count, tt) ((is.0, tt), is.1);
  hobs = λ count is. c.in_default-fields_after-4.ensures (count, tt) ((is.0, tt), is.1);
  handles = λ count is. c.in_default-fields_after-5.ensures (count, tt) ((is.0, tt), is.1);
}
