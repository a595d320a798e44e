use Rattle.std.proofs.Common.{◌≢◌, sym, true≢false}
use Rattle.fv_volume.specs.declared.fault.VolCause.TheVariants.{Memory}
use Rattle.tools_core.proofs.Prints.{tells_text, tells_fault}
use Rattle.tools_core.proofs.volume_tool.print_report.Goals as goal

pub returns-in-Ok : goal.returns-in-Ok
returns-in-Ok c = tells_text c.args.bytes.now c.in-Ok.text c.in-Ok.ensures.text

pub returns-else-eq : goal.returns-else-eq
returns-else-eq c =
    let fault = c.in-Err.fault in
    let real : fault.cause ≢ Memory = λ e. true≢false (sym (rw e at c.if-eq.ensures)) in
    tells_fault c.args.bytes.now fault c.volume_cause.result real c.in-Err.ensures.refused c.volume_cause.ensures
