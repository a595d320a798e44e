use Rattle.std.proofs.Common.{◌≢◌, sym, true≢false}
use Rattle.fv_volume.specs.declared.fault.VolCause.TheVariants.{Memory}
use Rattle.volume_print.proofs.inner.whole_volume.Goals as goal

pub returns-in-Err-clause-found : goal.returns-in-Err-clause-found
returns-in-Err-clause-found c =
    let fault = c.in-Err.fault in
    let real : fault.cause ≢ Memory = λ e. true≢false (sym (rw e at c.if-eq.ensures)) in
    λ volume is all. c.one_reading.ensures.apart c.args.bytes.now volume fault is (c.in-Err.ensures.refused real)
