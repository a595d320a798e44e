use Rattle.std.proofs.Common.{◌≡◌, false, map, take}
use Rattle.std.specs.List.{list_any}
use Rattle.volume_text.specs.Open.{is_script_of}
use Rattle.volume_print.specs.Description.{section_in}
use Rattle.volume_print.proofs.form.has_script.Given as goal

-- no section so far is a script of the phase
abbrev pub invariant-sections : goal.invariant-sections
invariant-sections l = list_any (is_script_of l.phase) (map (section_in l.stream) (take l.section-index l.sections)) ≡ false
