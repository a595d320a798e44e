use Rattle.std.proofs.Common.{◌≡◌, drop}
use Rattle.std.specs.List.{list_any}
use Rattle.volume_text.specs.Open.{is_depex_of, has_depex}
use Rattle.volume_text.proofs.volume.has_depex.Given as goal

-- an expression for the phase is among the sections to come
abbrev pub invariant-sections : goal.invariant-sections
invariant-sections l = list_any (is_depex_of l.phase) (drop l.section-index l.section-items) ≡ has_depex l.phase l.file
