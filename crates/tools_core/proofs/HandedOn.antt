-- What is told of what PEI handed on.
use Rattle.std.proofs.Common.{◌≡◌, ℕ, List, refl, subst, sym}
use Rattle.boot_plan.specs.declared.plan.Plan.{Plan}
use Rattle.boot_core.specs.declared.handing_on.HandOff.{HandOff}
use Rattle.boot_core.specs.declared.handing_on.HandOff.TheVariants.{Hobs, Ended}
use Rattle.tools_core.specs.{declared.report.Report.Report, Ends.Tells}
use Rattle.tools_core.specs.HobsReport.{HobsReport, ended, handed, told_hand_off}

pub told : (Hands : HandOff → Type 0) (plan : Plan) (images : List (List ℕ)) (x : HandOff) (report : Report) → report ≡ told_hand_off x → Hands x → Tells (HobsReport Hands plan images) report
told Hands plan images (Hobs bytes) report is on = subst (Tells (HobsReport Hands plan images)) (sym is) (handed bytes on refl refl, refl)
told Hands plan images (Ended end) report is on = subst (Tells (HobsReport Hands plan images)) (sym is) (ended end on refl refl, refl)
