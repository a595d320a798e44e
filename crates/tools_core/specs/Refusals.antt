-- The lines of the refusals. A proof sees a text whole only when it asks for it.
-- Own.
use Rattle.std.specs.Prelude.{ℕ, List, [], ◌∷◌, codes, decimal}
use Rattle.boot_io.specs.Line.{line_of}
use Rattle.boot_plan.specs.declared.fault.PlanFault.{PlanFault}
use Rattle.mod_catalog.specs.declared.image_fault.ImageFault.{ImageFault}
use Rattle.recorded_boot.specs.declared.trace.verdict.Verdict.{Verdict}
use Rattle.recorded_boot.specs.declared.trace.verdict.Verdict.TheVariants.{Yes, No}
use Rattle.boot_model.specs.declared.line.Line.TheVariants as L
use Rattle.boot_model.specs.declared.line.RunEnd.{RunEnd}
use Rattle.boot_model.specs.Text.{line_text, refused_file_text, refused_long_text}
use Rattle.act_code.specs.declared.fault.ActCause.{ActCause}
use Rattle.act_code.specs.declared.fault.ActCause.TheVariants as A

-- words of no form
unfoldable pub usage_line : List ℕ
usage_line = line_text L.RefusedUsage

-- a file that could not be read
unfoldable pub file_line : List ℕ → List ℕ
file_line name = refused_file_text name

-- a file that is too long
unfoldable pub long_line : List ℕ → List ℕ
long_line name = refused_long_text name

-- the first fault of a plan
unfoldable pub plan_line : PlanFault → List ℕ
plan_line fault = line_text (L.RefusedPlan fault.line fault.cause)

-- the first fault of the images of a plan's volumes
unfoldable pub image_line : ImageFault → List ℕ
image_line fault = line_text (L.RefusedImage fault.volume fault.at fault.cause)

-- how a boot ends that hands nothing on
unfoldable pub end_line : RunEnd → List ℕ
end_line end = line_text (L.Result end)

unfoldable pub refused_twins : List ℕ
refused_twins = codes "refused twins"

unfoldable pub yes_text : List ℕ
yes_text = codes "yes"

unfoldable pub no_text : List ℕ
no_text = codes "no"

-- a volume with two modules of one name
abbrev pub twins_line : ℕ → List ℕ
twins_line volume = line_of refused_twins (decimal volume ∷ [])

-- the verdict on a trace
abbrev pub yes_line : List ℕ
yes_line = line_of yes_text []

abbrev pub no_line : ℕ → List ℕ
no_line line = line_of no_text (decimal line ∷ [])

abbrev pub verdict_line : Verdict → List ℕ
verdict_line Yes = yes_line
verdict_line (No line) = no_line line

unfoldable pub refused_text : List ℕ
refused_text = codes "refused text"

unfoldable pub refused_text_long : List ℕ
refused_text_long = codes "refused text long"

unfoldable pub refused_bytes : List ℕ
refused_bytes = codes "refused bytes"

unfoldable pub malformed_text : List ℕ
malformed_text = codes "Malformed"

-- the word of a script's cause
unfoldable pub cause_text : ActCause → List ℕ
cause_text A.Magic = codes "Magic"
cause_text A.Version = codes "Version"
cause_text A.Phase = codes "Phase"
cause_text A.Count = codes "Count"
cause_text A.Block = codes "Block"
cause_text A.Action = codes "Action"
cause_text A.Jump = codes "Jump"
cause_text A.Index = codes "Index"
cause_text A.Memory = codes "Memory"

-- a text that goes wrong with this line
abbrev pub text_line : ℕ → List ℕ
text_line line = line_of refused_text (decimal line ∷ [])

-- a text whose bytes pass their limit
abbrev pub text_long_line : List ℕ
text_long_line = line_of refused_text_long []

-- bytes that are no expression, or no script, from this place on
abbrev pub malformed_line : ℕ → List ℕ
malformed_line at = line_of refused_bytes (malformed_text ∷ decimal at ∷ [])

abbrev pub bytes_line : ActCause → ℕ → List ℕ
bytes_line cause at = line_of refused_bytes (cause_text cause ∷ decimal at ∷ [])
