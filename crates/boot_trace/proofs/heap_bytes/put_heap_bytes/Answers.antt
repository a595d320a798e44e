use Rattle.std.proofs.Common.{◌≡◌, ℕ, ◌+◌, ◌-◌, ◌≤◌, List, arith, refl, sym, ap, ◌∙◌, subst}
use Rattle.std.specs.Io.KnownBytes.{Appends}
use Rattle.hex.specs.Hex.{encode_lower}
use Rattle.boot_io.specs.Sink.{AppendsPart, Puts}
use Rattle.boot_io.proofs.PutsLaws.{appends_none, appends_then, part_then, part_of_more, puts_then, puts_err}
use Rattle.boot_trace.specs.HeapParts.{IsHeapPart, heap_part}
use Rattle.boot_trace.proofs.{Hexadecimal.encode_lower-none, HeapPieces.piece_more, HeapPieces.no_piece}
use Rattle.boot_trace.proofs.heap_bytes.put_heap_bytes.Goals as goal

pub pieces-init : goal.pieces-init
pieces-init g c =
    let T = g.S.Sink.text in
    let P : List ℕ → Type 0 = λ text. Appends (T c.args.sink.now) (T c.args.sink.now) text in
    record {
      text = λ s stands part. subst P (sym (ap encode_lower (no_piece s c.args.at) ∙ encode_lower-none)) (appends_none (T c.args.sink.now));
      low = omega arith;
      end = refl;
      count = refl;
    }

pub pieces-preserved : goal.pieces-preserved
pieces-preserved g c =
    let T = g.S.Sink.text in
    let at = c.args.at in
    let next = c.pieces.next in
    let low = c.pieces.invariant.low in
    let end = c.pieces.invariant.end in
    let long = c.pieces-test.true in
    let P : List ℕ → Type 0 = λ text. Appends (T c.args.sink.now) (T c.put_heap_piece.new.sink) text in
    record {
      text = λ s stands part.
          let piece : IsHeapPart next 64 s = (omega (arith, part.0, low), omega (arith, part.1, end, long)) in
          let len : next + 64 ≡ at + (next + 64 - at) = omega (arith, low) in
          subst P (piece_more s at next 64 (next + 64 - at) part.0 low len)
          (appends_then (T c.args.sink.now) (T c.pieces.sink) (T c.put_heap_piece.new.sink) (encode_lower (heap_part s at (next - at))) (encode_lower (heap_part s next 64)) (c.pieces.invariant.text s stands part) (c.in_ok-put_heap_piece.ensures.text s stands piece));
      low = omega (arith, low);
      end = omega (arith, end, long);
      count = c.in_ok-put_heap_piece.ensures.cause ∙ c.pieces.invariant.count;
    }

pub returns-in_err-put_heap_piece-clause-text : goal.returns-in_err-put_heap_piece-clause-text
returns-in_err-put_heap_piece-clause-text g c s stands part =
    let T = g.S.Sink.text in
    let at = c.args.at in
    let next = c.pieces.next in
    let low = c.pieces.invariant.low in
    let end = c.pieces.invariant.end in
    let long = c.pieces-test.true in
    let piece : IsHeapPart next 64 s = (omega (arith, part.0, low), omega (arith, part.1, end, long)) in
    let len : next + 64 ≡ at + (next + 64 - at) = omega (arith, low) in
    let later : next + 64 + (c.pieces.left - 64) ≡ at + c.args.len = omega (arith, end, long) in
    let after : at ≤ next + 64 = omega (arith, low) in
    let P : List ℕ → Type 0 = λ text. AppendsPart (T c.args.sink.now) (T c.put_heap_piece.new.sink) text in
    let so_far = subst P (piece_more s at next 64 (next + 64 - at) part.0 low len)
    (part_then (T c.args.sink.now) (T c.pieces.sink) (T c.put_heap_piece.new.sink) (encode_lower (heap_part s at (next - at))) (encode_lower (heap_part s next 64)) (c.pieces.invariant.text s stands part) (c.in_err-put_heap_piece.ensures.text s stands piece)) in
    puts_err c.from_residual.result (T c.args.sink.now) (T c.put_heap_piece.new.sink) _ c.from_residual.ensures.0
    (subst P (piece_more s at (next + 64) (c.pieces.left - 64) c.args.len part.0 after later)
    (part_of_more (T c.args.sink.now) (T c.put_heap_piece.new.sink) (encode_lower (heap_part s at (next + 64 - at))) (encode_lower (heap_part s (next + 64) (c.pieces.left - 64))) so_far))

pub returns-clause-text : goal.returns-clause-text
returns-clause-text g c s stands part =
    let T = g.S.Sink.text in
    let at = c.args.at in
    let next = c.pieces.next in
    let low = c.pieces.invariant.low in
    let end = c.pieces.invariant.end in
    let piece : IsHeapPart next c.pieces.left s = (omega (arith, part.0, low), omega (arith, part.1, end)) in
    let P : List ℕ → Type 0 = λ text. Puts c.put_heap_piece-2.result (T c.args.sink.now) (T c.put_heap_piece-2.new.sink) text in
    subst P (piece_more s at next c.pieces.left c.args.len part.0 low end)
    (puts_then c.put_heap_piece-2.result (T c.args.sink.now) (T c.pieces.sink) (T c.put_heap_piece-2.new.sink) (encode_lower (heap_part s at (next - at))) (encode_lower (heap_part s next c.pieces.left))
    (c.pieces.invariant.text s stands part) (c.put_heap_piece-2.ensures.text s stands piece))
