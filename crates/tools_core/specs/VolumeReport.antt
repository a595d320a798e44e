-- What the text of a volume leads to: the bytes of the volume that its lines say, or the refusal of the first line at fault.
-- Own.
use Rattle.std.specs.Prelude.{◌≡◌, ℕ, List}
use Rattle.volume_text.specs.{declared.fault.Fault.Fault, declared.fault.TextFault.TheVariants.Bad}
use Rattle.volume_text.specs.Text.{Says, Leads, IsRefused}
use Rattle.tools_core.specs.declared.status.ToolStatus.{ToolStatus}
use Rattle.tools_core.specs.declared.status.ToolStatus.TheVariants.{Done, TextRefused}
use Rattle.tools_core.specs.SourceRefusal.{source_line}

pub data VolumeReport (text : List ℕ) (status : ToolStatus) (out : List ℕ) : Type 0 where
  built : (bytes : List ℕ) → Says text bytes → Leads text bytes → status ≡ Done → out ≡ bytes → VolumeReport text status out
  at_fault : (fault : Fault) → IsRefused text (Bad fault) → status ≡ TextRefused → out ≡ source_line fault → VolumeReport text status out
