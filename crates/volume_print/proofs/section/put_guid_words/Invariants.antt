use Rattle.std.proofs.Common.{◌≡◌, ◌*◌, ◌++◌, map, flat_map}
use Rattle.pi_base.specs.{Guids.guid_at, Lists.numbers}
use Rattle.volume_print.specs.Spelling.{guid_word}
use Rattle.volume_print.proofs.section.put_guid_words.Given as goal

-- the GUIDs so far
abbrev pub invariant-guids : goal.invariant-guids
invariant-guids l = l.out ≡ l.fn.out ++ flat_map guid_word (map (λ index. guid_at l.bytes (16 * index)) (numbers 0 l.index))
