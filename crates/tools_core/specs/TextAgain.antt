-- The text that `text` prints of a volume, as the text of `volume`: it makes the volume again, or is refused if that volume cannot be built. Own.
use Rattle.std.specs.Prelude.{◌≡◌, ◌⊎◌, ◌≤◌, List, ℕ, length}
use Rattle.pi_base.specs.Field.{AreBytes}
use Rattle.volume_print.specs.Description.{IsTextOf}
use Rattle.volume_again.specs.Made.{CannotBeBuilt, IsMadeAgain}
use Rattle.tools_core.specs.declared.command_line.Tool.TheVariants.{ReadVolume, Volume}
use Rattle.tools_core.specs.declared.status.ToolStatus.{ToolStatus}
use Rattle.tools_core.specs.declared.status.ToolStatus.TheVariants.{Done, TextRefused}
use Rattle.tools_core.specs.Outcome.{ContentReport, source_limit}

-- the answer is a volume in which a reader finds the form, length, name and files of the one with this text, name and files at their places; or the refusal of
-- a text of a volume that has no room for its files, or too many of them
abbrev pub MakesItAgain : List ℕ → List ℕ → ToolStatus → List ℕ → Type 0
MakesItAgain bytes text status out =
    (told : IsTextOf bytes text)
    × (((status ≡ Done) × IsMadeAgain bytes text told out) ⊎ ((status ≡ TextRefused) × CannotBeBuilt bytes text told))

-- for each text that `text` prints, this is what `volume` answers to it
abbrev pub TextsMakeVolumesAgain : Type 0
TextsMakeVolumesAgain =
    (bytes text out : List ℕ) (status : ToolStatus) → AreBytes bytes → length bytes ≤ source_limit → ContentReport ReadVolume bytes Done text
    → ContentReport Volume text status out → MakesItAgain bytes text status out
