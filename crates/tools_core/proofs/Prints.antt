-- What the bytes of a volume lead to.
use Rattle.std.proofs.Common.{◌≡◌, ◌≢◌, ℕ, List, refl, ap}
use Rattle.fv_volume.specs.{declared.fault.VolFault.VolFault, declared.fault.VolCause.TheVariants.Memory, Volume.IsFirstFault}
use Rattle.mod_catalog.specs.{declared.image_fault.ImageFault.ImageFault, declared.image_fault.ImageCause.ImageCause}
use Rattle.mod_catalog.specs.ImageCause.{volume_cause}
use Rattle.volume_print.specs.Description.{IsTextOf}
use Rattle.tools_core.specs.declared.report.Report.TheVariants as R
use Rattle.tools_core.specs.{Ends.Tells, Refusals.image_line}
use Rattle.tools_core.specs.PrintReport.{PrintReport, printed, no_volume}

abbrev of_cause : VolFault → ImageCause → ImageFault
of_cause fault cause = record { volume = 0; at = fault.at; cause = cause }

-- a text
pub tells_text : (image text : List ℕ) → IsTextOf image text → Tells (PrintReport image) (R.Answer text)
tells_text image text is = (printed text is refl refl, refl)

-- the first fault
pub tells_fault : (image : List ℕ) (fault : VolFault) (cause : ImageCause) → (fault.cause ≡ Memory → ⊥) → (fault.cause ≢ Memory → IsFirstFault image fault) → cause ≡ volume_cause fault.cause
    → Tells (PrintReport image) (R.Image (of_cause fault cause))
tells_fault image fault cause real first is = (no_volume fault real (first real) refl (ap (λ c. image_line (of_cause fault c)) is), refl)
