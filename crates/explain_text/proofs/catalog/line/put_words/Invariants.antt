use Rattle.std.proofs.Common.{◌≡◌, ◌++◌, flat_map, take}
use Rattle.boot_io.specs.Line.{spaced, words_now}
use Rattle.explain_text.proofs.catalog.line.put_words.Given as goal

abbrev pub invariant-words : goal.invariant-words
invariant-words l = l.out ≡ l.fn.out ++ flat_map spaced (words_now (take l.word-index l.words))
