-- What the bytes of a volume lead to: its text, or the refusal of its first fault, as of a plan's first volume.
-- Own.
use Rattle.std.specs.Prelude.{◌≡◌, ◌≢◌, ℕ, List}
use Rattle.fv_volume.specs.{declared.fault.VolFault.VolFault, declared.fault.VolCause.TheVariants.Memory, Volume.IsFirstFault}
use Rattle.mod_catalog.specs.ImageCause.{volume_cause}
use Rattle.volume_print.specs.Description.{IsTextOf}
use Rattle.tools_core.specs.declared.status.ToolStatus.{ToolStatus}
use Rattle.tools_core.specs.declared.status.ToolStatus.TheVariants.{Done, ImageRefused}
use Rattle.tools_core.specs.Refusals.{image_line}

-- a fault of the one volume
abbrev pub fault_line : VolFault → List ℕ
fault_line fault = image_line (record { volume = 0; at = fault.at; cause = volume_cause fault.cause })

pub data PrintReport (bytes : List ℕ) (status : ToolStatus) (out : List ℕ) : Type 0 where
  printed : (text : List ℕ) → IsTextOf bytes text → status ≡ Done → out ≡ text → PrintReport bytes status out
  no_volume : (fault : VolFault) → fault.cause ≢ Memory → IsFirstFault bytes fault → status ≡ ImageRefused → out ≡ fault_line fault → PrintReport bytes status out
