use Rattle.std.proofs.Common.{sym, ◌∙◌}
use Rattle.volume_text.specs.Open.{is_script_of}
use Rattle.volume_print.specs.Description.{section_in}
use Rattle.volume_print.proofs.Lists.{some_at}
use Rattle.volume_print.proofs.form.has_script.Goals as goal

pub returns-then-is_script_of : goal.returns-then-is_script_of
returns-then-is_script_of c =
    sym (some_at (is_script_of c.args.phase) (section_in c.args.stream.now) c.args.sections.now c.sections.section-index _ c.sections-test.true
    (sym c.is_script_of.ensures ∙ c.if-is_script_of.true))
