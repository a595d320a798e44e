use Rattle.std.proofs.Common.{◌∙◌, sym, []}
use Rattle.boot_model.specs.Text.{keyword}
use Rattle.trace_reader.proofs.{CallWords.call_is, HexWords.not_decided}
use Rattle.trace_reader.proofs.call_line.silent_call.Goals as goal

pub returns-in_default-clause-none : goal.returns-in_default-clause-none
unfolding keyword
returns-in_default-clause-none c = λ none name status is. c.in_default.ensures (record { value = name }, (record { value = status }, tt)) ((tt, (tt, tt)), is.1)

pub returns-else-may_show_nothing-clause-none : goal.returns-else-may_show_nothing-clause-none
unfolding keyword
returns-else-may_show_nothing-clause-none c = λ none name status is.
    let same = call_is c.args.line.now c.in-Some.field-0-0.value name c.in-Some.field-0-1-0.value status [] [] c.in-Some.ensures.1 is.1 in
    not_decided _ c.may_show_nothing.ensures c.if-may_show_nothing.false (λ e. rw same.0 (is.0 (sym same.1 ∙ e)))
