use Rattle.std.proofs.Common.{◌≢◌, refl, sym, true≢false}
use Rattle.boot_plan.specs.declared.fault.PlanCause.TheVariants.{Memory}
use Rattle.boot_core.proofs.plan_files.job.plan_of.Goals as goal

pub returns-else-eq-clause-row : goal.returns-else-eq-clause-row
returns-else-eq-clause-row c =
    let fault = c.in-Err.fault in
    let real : fault.cause ≢ Memory = λ e. true≢false (sym (rw e at c.if-eq.ensures)) in
    record { fault = fault; is = c.in-Err.ensures.fault real; line_is = refl }
