use Rattle.std.proofs.Common.{◌≡◌, ◌++◌, flat_map, map, take}
use Rattle.boot_io.specs.Line.{spaced}
use Rattle.pi_base.specs.WordText.{guid_text}
use Rattle.explain_text.proofs.held_lines.put_guids.Given as goal

abbrev pub invariant-guids : goal.invariant-guids
invariant-guids l = l.out ≡ l.fn.out ++ flat_map spaced (map guid_text (take l.guid-index l.guids))
