-- The text of an explained boot: its starts, the modules that wait, the parts that neither started nor wait, and its end.
-- Own.
use Rattle.std.specs.Prelude.{ℕ, Bool, ◌||◌, List, ◌++◌, flat_map}
use Rattle.pi_base.specs.{declared.phase.Phase.Phase, declared.phase.Phase.TheVariants.Pei, declared.phase.Phase.TheVariants.Dxe}
use Rattle.mod_catalog.specs.declared.catalogue.Module.{Module}
use Rattle.explain_text.specs.{declared.reasons.Explained.Explained, EndLines.end_lines, Flags.has_started, Flags.is_held}
use Rattle.explain_text.specs.{HeldLines.held_lines, LeftLines.left_lines, StartLines.start_lines}

-- whether a module started in a phase or waits at its end
abbrev pub is_told : Explained → Phase → ℕ → Bool
is_told e phase number = has_started e.begun phase number || is_held e.held phase number

abbrev pub explained_text : List Module → Explained → List ℕ
explained_text modules e =
    flat_map start_lines e.begun ++ flat_map (held_lines e.begun modules) e.held
    ++ left_lines Pei (is_told e Pei) e.reported 0 modules ++ left_lines Dxe (is_told e Dxe) e.discovered 0 modules
    ++ end_lines e
