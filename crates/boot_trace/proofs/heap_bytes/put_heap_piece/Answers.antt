use Rattle.std.proofs.Common.{◌≡◌, ℕ, List, length, ap, ◌∙◌, subst}
use Rattle.hex.specs.Hex.{encode_lower}
use Rattle.boot_io.specs.Sink.{Puts}
use Rattle.store_model.specs.MemoryReading.{bytes_at}
use Rattle.boot_trace.specs.HeapParts.{heap_part}
use Rattle.boot_trace.proofs.HeapReads.{heap_read, peeked}
use Rattle.boot_trace.proofs.heap_bytes.put_heap_piece.Goals as goal

pub returns-clause-text : goal.returns-clause-text
returns-clause-text g c s stands part =
    let T = g.S.Sink.text in
    let old = c.split_at_mut-piece.result.0.now in
    let len : length old ≡ c.args.len = c.split_at_mut-piece.ensures.front_len in
    let read = heap_read s c.args.at c.args.len (g.met.M.PeiStore.facts c.args.store.now s stands) part in
    let now = peeked (bytes_at s c.args.at (length old)) c.peek.result old c.peek.new.into (heap_part s c.args.at c.args.len) (c.peek.ensures.row s stands tt) (ap (bytes_at s c.args.at) len ∙ read) in
    let P : List ℕ → Type 0 = λ bytes. Puts c.put_piece.result (T c.args.sink.now) (T c.put_piece.new.sink) (encode_lower bytes) in
    subst P now c.put_piece.ensures.text
