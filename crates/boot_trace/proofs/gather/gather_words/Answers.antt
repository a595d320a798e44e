use Rattle.std.proofs.Common.{◌++◌, ◌∷◌, [], ◌+◌, sym, ap, ◌∙◌, Ok, append_assoc, get_or, take, drop}
use Rattle.boot_trace.specs.{declared.piece.Piece.TheVariants.Decimal, Pieces.piece_text}
use Rattle.boot_io.proofs.PutsLaws.{gathers_then, gathers_err}
use Rattle.boot_trace.proofs.PieceTexts.{words_text, words_more, words_at, piece_fails}
use Rattle.boot_trace.proofs.gather.gather_words.Goals as goal

pub returns-in_err-gather-clause-text : goal.returns-in_err-gather-clause-text
returns-in_err-gather-clause-text g c =
    let T = g.S.Sink.text in
    let words = c.args.words.now in
    let i = c.loop-word.word-index in
    let line = c.args.line.now.items in
    let behind = piece_text (get_or words i (Decimal 0)) ++ words_text (drop (i + 1) words) in
    gathers_err c.from_residual.result (T c.args.sink.now) (T c.gather.new.sink) line c.gather.new.line.items (words_text words) c.from_residual.ensures.0
    (piece_fails (T c.args.sink.now) (T c.loop-word.sink) (T c.gather.new.sink) line c.loop-word.line.items (words_text (take i words)) (32 ∷ []) behind (words_text words)
    c.loop-word.invariant.text c.in_err-gather.ensures.text (words_at words i (Decimal 0) c.loop-word-test.true))

pub returns-in_err-gather_piece-clause-text : goal.returns-in_err-gather_piece-clause-text
returns-in_err-gather_piece-clause-text g c =
    let T = g.S.Sink.text in
    let words = c.args.words.now in
    let i = c.loop-word.word-index in
    let line = c.args.line.now.items in
    let before = words_text (take i words) in
    let behind = words_text (drop (i + 1) words) in
    let word = piece_text (get_or words i _) in
    let spaced_so = gathers_then (Ok tt) (T c.args.sink.now) (T c.loop-word.sink) (T c.gather.new.sink) line c.loop-word.line.items c.gather.new.line.items
    before (32 ∷ []) c.loop-word.invariant.text c.in_ok-gather.ensures.text in
    gathers_err c.from_residual-in_err-gather_piece.result (T c.args.sink.now) (T c.gather_piece.new.sink) line c.gather_piece.new.line.items (words_text words) c.from_residual-in_err-gather_piece.ensures.0
    (piece_fails (T c.args.sink.now) (T c.gather.new.sink) (T c.gather_piece.new.sink) line c.gather.new.line.items (before ++ 32 ∷ []) word behind (words_text words)
    spaced_so c.in_err-gather_piece.ensures.text (append_assoc before (32 ∷ []) (word ++ behind) ∙ words_at words i _ c.loop-word-test.true))

pub loop-word-preserved : goal.loop-word-preserved
loop-word-preserved g c =
    let T = g.S.Sink.text in
    let words = c.args.words.now in
    let i = c.loop-word.word-index in
    let line = c.args.line.now.items in
    let before = words_text (take i words) in
    let word = piece_text (get_or words i _) in
    let spaced_so = gathers_then (Ok tt) (T c.args.sink.now) (T c.loop-word.sink) (T c.gather.new.sink) line c.loop-word.line.items c.gather.new.line.items
    before (32 ∷ []) c.loop-word.invariant.text c.in_ok-gather.ensures.text in
    let more = gathers_then (Ok tt) (T c.args.sink.now) (T c.gather.new.sink) (T c.gather_piece.new.sink) line c.gather.new.line.items c.gather_piece.new.line.items
    (before ++ 32 ∷ []) word spaced_so c.in_ok-gather_piece.ensures.text in
    record {
      text = (more.0, more.1, more.2 ∙ ap (λ t. line ++ t) (append_assoc before (32 ∷ []) word ∙ sym (words_more words i _ c.loop-word-test.true)));
      count = c.in_ok-gather_piece.ensures.cause ∙ (c.in_ok-gather.ensures.cause ∙ c.loop-word.invariant.count);
    }
