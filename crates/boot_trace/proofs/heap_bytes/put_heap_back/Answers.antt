use Rattle.std.proofs.Common.{[], ◌∷◌}
use Rattle.hex.specs.Hex.{encode_lower}
use Rattle.boot_io.proofs.PutsLaws.{puts_then, part_of_more}
use Rattle.boot_trace.specs.HeapParts.{heap_part}
use Rattle.boot_trace.proofs.heap_bytes.put_heap_back.Goals as goal

pub returns-in-Ok-clause-text : goal.returns-in-Ok-clause-text
returns-in-Ok-clause-text g c s stands part =
    let T = g.S.Sink.text in
    puts_then c.put.result (T c.args.sink.now) (T c.put_heap_bytes.new.sink) (T c.put.new.self) (encode_lower (heap_part s c.args.at c.args.len)) (10 ∷ []) (c.in-Ok.ensures.text s stands part) c.put.ensures.text

pub returns-in-Err-clause-text : goal.returns-in-Err-clause-text
returns-in-Err-clause-text g c s stands part =
    let T = g.S.Sink.text in
    part_of_more (T c.args.sink.now) (T c.put_heap_bytes.new.sink) (encode_lower (heap_part s c.args.at c.args.len)) (10 ∷ []) (c.in-Err.ensures.text s stands part)
