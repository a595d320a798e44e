use Rattle.std.proofs.Common.{◌≡◌, ℕ, List, false, map, take}
use Rattle.std.specs.List.{list_any}
use Rattle.volume_text.specs.Open.{is_depex_of}
use Rattle.volume_print.specs.Description.{section_in}
use Rattle.volume_print.proofs.form.has_depex.Given as goal

-- no section so far has the expression for the phase
abbrev pub invariant-sections : goal.invariant-sections
invariant-sections l = (stream : List ℕ) → list_any (is_depex_of l.phase) (map (section_in stream) (take l.section-index l.sections)) ≡ false
