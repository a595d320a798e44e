-- The text of the lines of a start.
use Rattle.std.proofs.Common.{◌≡◌, ℕ, Bool, true, false, List, [], ◌∷◌, Option, append-nil}
use Rattle.pi_base.specs.declared.word.Word.TheVariants.{Success}
use Rattle.boot_io.specs.Sink.{AppendsPart}
use Rattle.boot_io.proofs.PutsLaws.{part_of_more}
use Rattle.boot_model.specs.{declared.line.Line.Line, Text.line_text, Text.text_of}
use Rattle.boot_model.specs.declared.line.Line.TheVariants as L
use Rattle.boot_trace.specs.StartLines.{started_lines}

pub one_text : (line : Line) → text_of (line ∷ []) ≡ line_text line
one_text line = append-nil (line_text line)

pub first_text : (line : Line) (runs : Bool) (old new : Option (List ℕ)) → AppendsPart old new (line_text line) → AppendsPart old new (text_of (started_lines line runs))
first_text line true old new part = part_of_more old new (line_text line) [] part
first_text line false old new part = part_of_more old new (line_text line) (text_of (L.End Success ∷ [])) part
