use Rattle.std.proofs.Common.{◌∙◌, [], ◌∷◌}
use Rattle.pi_base.specs.WordText.{hexadecimal}
use Rattle.boot_model.specs.Text.{keyword}
use Rattle.trace_reader.proofs.{CallWords.call_is, HexWords.not_decided}
use Rattle.trace_reader.proofs.call_line.number_call.Goals as goal

pub returns-in_default-clause-none : goal.returns-in_default-clause-none
unfolding keyword
returns-in_default-clause-none c = λ none name status n is. c.in_default.ensures (record { value = name }, (record { value = status }, (record { 0 = n }, tt))) ((tt, (tt, (is.0.2, tt))), is.1)

pub returns-else-may_show_number-clause-none : goal.returns-else-may_show_number-clause-none
unfolding keyword
returns-else-may_show_number-clause-none c = λ none name status n is.
    let same = call_is c.args.line.now c.in-Some.field-0-0.value name c.in-Some.field-0-1-0.value status (hexadecimal c.in-Some.field-0-1-1-0.0 ∷ []) (hexadecimal n ∷ []) c.in-Some.ensures.1 is.1 in
    not_decided _ c.may_show_number.ensures c.if-may_show_number.false ((same.1 ∙ is.0.0, rw same.0 is.0.1))
