use Rattle.std.proofs.Common.{◌≡◌, ◌+◌, ◌++◌, length, take}
use Rattle.hob_codec.specs.FieldView.{all_bytes}
use Rattle.hob_codec.proofs.field.put_fields.Given as goal

abbrev pub invariant-fields : goal.invariant-fields
invariant-fields l = record {
  place : l.at ≡ l.from + length (all_bytes (take l.field-index l.fields));
  written : take l.at l.out ≡ take l.from l.fn.out ++ all_bytes (take l.field-index l.fields);
}
