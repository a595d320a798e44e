-- The HOB list that PEI hands to DXE in the boot of a plan, byte by byte, or the end of a boot whose PEI does not hand off: in the order of the machine itself, or in that of EDK2's dispatchers. PI 1.8, volume 3, "HOB List"; the
-- lines are own.
use Rattle.std.specs.Prelude.{◌≡◌, ℕ, List}
use Rattle.boot_plan.specs.declared.plan.Plan.{Plan}
use Rattle.mod_catalog.specs.{declared.image_fault.ImageFault.ImageFault, ImageFault.IsImageFault}
use Rattle.boot_model.specs.declared.line.RunEnd.{RunEnd}
use Rattle.boot_core.specs.declared.handing_on.HandOff.{HandOff}
use Rattle.boot_core.specs.declared.handing_on.HandOff.TheVariants.{Hobs, Ended}
use Rattle.tools_core.specs.{declared.report.Report.Report, declared.status.ToolStatus.ToolStatus}
use Rattle.tools_core.specs.declared.report.Report.TheVariants as R
use Rattle.tools_core.specs.declared.status.ToolStatus.TheVariants.{Done, ImageRefused}
use Rattle.tools_core.specs.{Refusals.end_line, Refusals.image_line, ReportText.end_status}

-- the report of what PEI handed on
abbrev pub told_hand_off : HandOff → Report
told_hand_off (Hobs hobs) = R.Answer hobs
told_hand_off (Ended end) = R.Ended end

-- what a plan and its images lead to, of which PEI hands such a thing on
pub data HobsReport (Hands : HandOff → Type 0) (plan : Plan) (images : List (List ℕ)) (status : ToolStatus) (out : List ℕ) : Type 0 where
  bad_image : (fault : ImageFault) → IsImageFault plan images fault → status ≡ ImageRefused → out ≡ image_line fault → HobsReport Hands plan images status out
  handed : (hobs : List ℕ) → Hands (Hobs hobs) → status ≡ Done → out ≡ hobs → HobsReport Hands plan images status out
  ended : (end : RunEnd) → Hands (Ended end) → status ≡ end_status end → out ≡ end_line end → HobsReport Hands plan images status out
