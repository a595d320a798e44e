-- The lines of a module's start: a script without blocks ends at once.
-- Own.
use Rattle.std.specs.Prelude.{Bool, true, false, List, [], ◌∷◌}
use Rattle.pi_base.specs.declared.word.Word.TheVariants.{Success}
use Rattle.boot_model.specs.declared.line.Line.{Line}
use Rattle.boot_model.specs.declared.line.Line.TheVariants as L

-- by whether its script runs
abbrev pub started_lines : Line → Bool → List Line
started_lines line true = line ∷ []
started_lines line false = line ∷ L.End Success ∷ []
