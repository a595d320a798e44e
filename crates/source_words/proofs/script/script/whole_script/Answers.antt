use Rattle.std.proofs.Common.{refl, sym}
use Rattle.source_words.proofs.Whole.{in_grammar}
use Rattle.source_words.proofs.script.script.whole_script.Goals as goal

pub write_script-requires : goal.write_script-requires
write_script-requires c = in_grammar c.args.draft.now c.requires (sym (rw c.as_slice.ensures at c.in-None.ensures))

pub returns-in-Err-TooLong-clause-refused : goal.returns-in-Err-TooLong-clause-refused
returns-in-Err-TooLong-clause-refused c =
    let none = sym (rw c.as_slice.ensures at c.in-None.ensures) in
    (none, in_grammar c.args.draft.now c.requires none, (rw c.in-Err-TooLong.field-0-is at c.in-Err-TooLong.ensures.too_long) refl)

pub returns-in-Ok-clause-whole : goal.returns-in-Ok-clause-whole
returns-in-Ok-clause-whole c = (sym (rw c.as_slice.ensures at c.in-None.ensures), c.in-Ok.ensures.script)
