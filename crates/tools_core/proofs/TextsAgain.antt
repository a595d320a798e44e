-- What `volume` answers to a text that `text` printed.
use Rattle.std.proofs.Common.{◌≡◌, inl, inr, ℕ, ◌≤◌, List, length, sym, subst, arith}
use Rattle.pi_base.specs.Field.{AreBytes}
use Rattle.fv_volume.proofs.Standing.{volume_len}
use Rattle.volume_text.specs.{declared.fault.Fault.Fault, declared.fault.TextFault.TheVariants.Bad, Text.Leads, Text.IsRefused}
use Rattle.volume_print.specs.Description.{IsTextOf}
use Rattle.volume_again.specs.Made.{CannotBeBuilt, IsMadeAgain}
use Rattle.tools_core.specs.declared.status.ToolStatus.{ToolStatus}
use Rattle.tools_core.specs.declared.status.ToolStatus.TheVariants.{Done, ImageRefused}
use Rattle.tools_core.specs.PrintReport.{PrintReport, printed, no_volume}
use Rattle.tools_core.specs.VolumeReport.{VolumeReport, built, at_fault}
use Rattle.tools_core.specs.TextAgain.{MakesItAgain}

-- what holds of the texts of volumes
pub record Laws : Type 0 where
  pub made : (bytes text again : List ℕ) (told : IsTextOf bytes text) → AreBytes bytes → told.volume.len ≤ 0x4000000 → Leads text again → IsMadeAgain bytes text told again
  pub refused : (bytes text : List ℕ) (fault : Fault) (told : IsTextOf bytes text) → AreBytes bytes → told.volume.len ≤ 0x4000000 → IsRefused text (Bad fault) → CannotBeBuilt bytes text told

-- a volume is no longer than its bytes
most_long : (bytes text : List ℕ) (told : IsTextOf bytes text) → length bytes ≤ 0x4000000 → told.volume.len ≤ 0x4000000
most_long bytes text told short = omega (arith, volume_len bytes told.is.0 told.is.1, told.is.2, short)

answered : Laws → (bytes text out : List ℕ) (status : ToolStatus) (told : IsTextOf bytes text) → AreBytes bytes → length bytes ≤ 0x4000000 → VolumeReport text status out → MakesItAgain bytes text status out
answered laws bytes text out status told fit short (built again says leads is same) =
    let made = laws.made bytes text again told fit (most_long bytes text told short) leads in (
      told,
      inl (is, subst (λ (o : List ℕ). IsMadeAgain bytes text told o) (sym same) made),
    )
answered laws bytes text out status told fit short (at_fault fault wrong is same) = (
  told,
  inr (is, laws.refused bytes text fault told fit (most_long bytes text told short) wrong),
)

pub again : Laws → (bytes text out : List ℕ) (status : ToolStatus) → AreBytes bytes → length bytes ≤ 0x4000000 → PrintReport bytes Done text → VolumeReport text status out → MakesItAgain bytes text status out
again laws bytes text out status fit short (printed same told is text_is) report =
    answered laws bytes text out status (subst (λ (t : List ℕ). IsTextOf bytes t) (sym text_is) told) fit short report
again laws bytes text out status fit short (no_volume fault real wrong is same) report = absurd (let no : Done ≡ ImageRefused = is in cc)
