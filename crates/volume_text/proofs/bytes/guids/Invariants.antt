use Rattle.std.proofs.Common.{◌≡◌, length}
use Rattle.source_words.specs.Words.{words}
use Rattle.volume_text.specs.Bytes.{guids_of}
use Rattle.volume_text.proofs.GuidLists.{in_front}
use Rattle.volume_text.proofs.bytes.guids.Given as goal

-- the bytes so far, and those of the rest
abbrev pub invariant-words : goal.invariant-words
invariant-words l = guids_of (words l.text) ≡ in_front l.list (guids_of (words l.rest))

abbrev pub decreases-words : goal.decreases-words
decreases-words l = length l.rest
