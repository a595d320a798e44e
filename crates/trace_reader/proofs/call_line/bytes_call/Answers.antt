use Rattle.std.proofs.Common.{◌∙◌, [], ◌∷◌}
use Rattle.hex.specs.Hex.{encode_lower}
use Rattle.boot_model.specs.Text.{keyword}
use Rattle.trace_reader.proofs.{CallWords.call_is, HexWords.not_decided}
use Rattle.trace_reader.proofs.call_line.bytes_call.Goals as goal

pub returns-in_default-clause-none : goal.returns-in_default-clause-none
unfolding keyword
returns-in_default-clause-none c = λ none name status bytes is. c.in_default.ensures (record { value = name }, (record { value = status }, (bytes, tt))) ((tt, (tt, (is.0.2, tt))), is.1)

pub returns-else-may_show_bytes-clause-none : goal.returns-else-may_show_bytes-clause-none
unfolding keyword
returns-else-may_show_bytes-clause-none c = λ none name status bytes is.
    let same = call_is c.args.line.now c.in-Some.field-0-0.value name c.in-Some.field-0-1-0.value status (encode_lower c.in-Some.bytes.items ∷ []) (encode_lower bytes.items ∷ []) c.in-Some.ensures.1 is.1 in
    not_decided _ c.may_show_bytes.ensures c.if-may_show_bytes.false ((same.1 ∙ is.0.0, same.0 ∙ is.0.1))
