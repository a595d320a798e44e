use Rattle.std.proofs.Common.{◌≡◌, length, find, bytes_eq}
use Rattle.mp_core.specs.LineText.{keyword_text, keyword_named}
use Rattle.mp_core.proofs.keyword.keyword_named.Given as goal

-- the word is none of the keywords so far
abbrev pub invariant-keywords : goal.invariant-keywords
invariant-keywords l = keyword_named l.word ≡ find (λ keyword. bytes_eq l.word (keyword_text keyword)) l.rest

abbrev pub decreases-keywords : goal.decreases-keywords
decreases-keywords l = length l.rest
