use Rattle.std.proofs.Common.{refl, ◌∙◌}
use Rattle.act_code.specs.Script.{script_bytes}
use Rattle.tools_core.specs.TextReport.{AssemblyReport, assembled, hex_line, long_script, no_script}
use Rattle.tools_core.proofs.Ending.{answered}
use Rattle.tools_core.proofs.text_tool.assemble_script.Goals as goal

pub returns-in-Err-Bad : goal.returns-in-Err-Bad
returns-in-Err-Bad c = (no_script c.in-Err-Bad.line (rw c.in-Err-Bad.field-0-is at c.in-Err-Bad.ensures.refused) refl (rw c.in-Err-Bad.field-0-is refl), refl)

pub returns-in-Err-TooLong : goal.returns-in-Err-TooLong
returns-in-Err-TooLong c =
    let refused = rw c.in-Err-TooLong.field-0-is at c.in-Err-TooLong.ensures.refused in
    (long_script refused.0 refused.1 refused.2 refl refl, refl)

pub returns-in-Ok-write_script : goal.returns-in-Ok-write_script
returns-in-Ok-write_script c =
    let script = c.in-Ok.script in
    answered c.hex_answer.result (AssemblyReport c.args.text.now) (hex_line (script_bytes script))
    (rw (c.as_slice.ensures ∙ c.in-Ok-write_script.ensures.written) at c.hex_answer.ensures) (assembled script c.in-Ok.ensures.read c.in-Ok.ensures.short refl refl)
