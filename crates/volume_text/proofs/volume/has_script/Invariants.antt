use Rattle.std.proofs.Common.{◌≡◌, drop}
use Rattle.std.specs.List.{list_any}
use Rattle.volume_text.specs.Open.{is_script_of, has_script}
use Rattle.volume_text.proofs.volume.has_script.Given as goal

-- a script of the phase is among the sections to come
abbrev pub invariant-sections : goal.invariant-sections
invariant-sections l = list_any (is_script_of l.phase) (drop l.section-index l.section-items) ≡ has_script l.phase l.file
