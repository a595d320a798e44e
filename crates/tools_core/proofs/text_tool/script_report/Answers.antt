use Rattle.std.proofs.Common.{◌≢◌, refl, sym, true≢false}
use Rattle.act_code.specs.declared.fault.ActCause.TheVariants.{Memory}
use Rattle.tools_core.specs.TextReport.{faulty, stands}
use Rattle.tools_core.proofs.text_tool.script_report.Goals as goal

pub returns-in_ok-print_script-in-Ok : goal.returns-in_ok-print_script-in-Ok
returns-in_ok-print_script-in-Ok c = (stands c.in-Ok.script c.in-Ok.ensures.read refl c.in_ok-print_script-in-Ok.ensures, refl)

pub returns-else-eq : goal.returns-else-eq
returns-else-eq c =
    let fault = c.in-Err.fault in
    let real : fault.cause ≢ Memory = λ e. true≢false (sym (rw e at c.if-eq.ensures)) in
    (faulty fault real (c.in-Err.ensures.refused real) refl refl, refl)
