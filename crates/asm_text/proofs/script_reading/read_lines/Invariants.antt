use Rattle.std.proofs.Common.{◌≡◌, ◌+◌, ◌++◌, ℕ, List, length, flat_map}
use Rattle.asm_text.specs.ScriptText.{line, phase_text}
use Rattle.asm_text.proofs.BadScripts.{Reached, whole_lines}
use Rattle.asm_text.proofs.script_reading.read_lines.Given as goal

-- the lines so far are put together, and the rest follows
abbrev pub invariant-lines : goal.invariant-lines
invariant-lines l =
    (lines : List (List ℕ)) × Reached l.fn.phase lines l.draft × (line (phase_text l.fn.phase) ++ l.text ≡ flat_map line (whole_lines l.fn.phase lines) ++ l.rest) × (l.number ≡ length lines + 2)

abbrev pub decreases-lines : goal.decreases-lines
decreases-lines l = length l.rest
