use Rattle.std.proofs.Common.{◌≡◌, ◌++◌, List, ℕ, take}
use Rattle.std.specs.Io.KnownBytes.{Appends}
use Rattle.boot_trace.proofs.PieceTexts.{words_text}
use Rattle.boot_trace.proofs.gather.gather_words.Given as goal

-- the words so far were gathered
abbrev pub invariant-loop-word : goal.invariant-loop-word
invariant-loop-word g l = record {
  text : (part : List ℕ) × Appends (g.S.Sink.text l.fn.sink) (g.S.Sink.text l.sink) part × (part ++ l.line.items ≡ l.fn.line.items ++ words_text (take l.word-index l.words));
  count : g.S.Sink.faults l.sink ≡ g.S.Sink.faults l.fn.sink;
}
