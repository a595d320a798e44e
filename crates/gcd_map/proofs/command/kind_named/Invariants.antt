use Rattle.std.proofs.Common.{◌≡◌, length, find, bytes_eq}
use Rattle.gcd_map.specs.{CommandText.kind_named, MapText.kind_text}
use Rattle.gcd_map.proofs.command.kind_named.Given as goal

-- the word is none of the kinds so far
abbrev pub invariant-kinds : goal.invariant-kinds
invariant-kinds l = kind_named l.word ≡ find (λ kind. bytes_eq l.word (kind_text kind)) l.rest

abbrev pub decreases-kinds : goal.decreases-kinds
decreases-kinds l = length l.rest
