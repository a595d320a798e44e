use Rattle.boot_model.specs.Text.{keyword}
use Rattle.trace_reader.proofs.entry_line.entry_line.Goals as goal

pub returns-clause-none : goal.returns-clause-none
unfolding keyword
returns-clause-none c = λ none. record {
  ppi = λ by guid value is. c.in_default.ensures (record { 0 = by }, (guid, (record { 0 = value }, tt))) ((is.0.0, (is.0.1, (is.0.2, tt))), is.1);
  callback = λ guid by block is. c.in_default-fields_after.ensures (guid, (by, (block, tt))) ((is.0.0, (is.0.1, (is.0.2, tt))), is.1);
  dispatch = λ guid by block is. c.in_default-fields_after-2.ensures (guid, (by, (block, tt))) ((is.0.0, (is.0.1, (is.0.2, tt))), is.1);
  pending = λ guid by block is. c.in_default-fields_after-3.ensures (guid, (by, (block, tt))) ((is.0.0, (is.0.1, (is.0.2, tt))), is.1);
  handle = λ handle guid value is. c.in_default-fields_after-4.ensures (handle, (guid, (record { 0 = value }, tt))) ((is.0.0, (is.0.1, (is.0.2, tt))), is.1);
}
