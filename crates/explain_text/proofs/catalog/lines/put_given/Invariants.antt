use Rattle.std.proofs.Common.{◌≡◌, ◌++◌, flat_map, take}
use Rattle.pi_base.specs.WordText.{guid_text}
use Rattle.explain_text.specs.Lines.{gives_line}
use Rattle.explain_text.proofs.catalog.lines.put_given.Given as goal

abbrev pub invariant-guids : goal.invariant-guids
invariant-guids l = l.out ≡ l.fn.out ++ flat_map (λ guid. gives_line l.fn.number l.fn.phase (guid_text guid)) (take l.guid-index l.guids)
