use Rattle.std.proofs.Common.{◌≡◌, ◌*◌, take, length}
use Rattle.store_plain.specs.Words.{words_bytes}
use Rattle.store_plain.proofs.word_bytes.put_words.Given as goal

abbrev pub invariant-words : goal.invariant-words
invariant-words l = record {
  len : length l.out ≡ length l.fn.out;
  put : take (8 * l.i) l.out ≡ words_bytes (take l.i l.words);
}
