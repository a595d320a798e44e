use Rattle.std.proofs.Common.{◌≤◌, ◌++◌, List, ℕ, [], ◌∷◌, arith, decimal, subst}
use Rattle.hex.specs.Hex.{encode_lower}
use Rattle.boot_io.specs.Sink.{AppendsPart, Puts}
use Rattle.boot_io.proofs.PutsLaws.{puts_then, part_of_more}
use Rattle.boot_trace.specs.HeapParts.{heap_part}
use Rattle.boot_trace.proofs.{HeapPieces.part_some, Hexadecimal.hob_parts}
use Rattle.boot_trace.proofs.heap_bytes.put_heap_hob.Goals as goal

pub returns-in-Ok-clause-text : goal.returns-in-Ok-clause-text
returns-in-Ok-clause-text g c s stands part =
    let T = g.S.Sink.text in
    let body = heap_part s c.args.at c.args.len in
    let long : 1 ≤ c.args.len = omega (arith, c.if-len-eq0.false) in
    let some = part_some s c.args.at c.args.len (g.met.M.PeiStore.facts c.args.store.now s stands) long part in
    let P : List ℕ → Type 0 = λ text. Puts c.put_heap_back.result (T c.args.sink.now) (T c.put_heap_back.new.sink) text in
    subst P (hob_parts c.args.keyword.now (decimal c.args.kind) body some)
    (puts_then c.put_heap_back.result (T c.args.sink.now) (T c.put_front.new.sink) (T c.put_heap_back.new.sink) ((c.args.keyword.now ++ 32 ∷ []) ++ (decimal c.args.kind ++ 32 ∷ [])) (encode_lower body ++ 10 ∷ [])
    c.in-Ok.ensures.text (c.put_heap_back.ensures.text s stands part))

pub returns-in-Err-clause-text : goal.returns-in-Err-clause-text
returns-in-Err-clause-text g c s stands part =
    let T = g.S.Sink.text in
    let body = heap_part s c.args.at c.args.len in
    let long : 1 ≤ c.args.len = omega (arith, c.if-len-eq0.false) in
    let some = part_some s c.args.at c.args.len (g.met.M.PeiStore.facts c.args.store.now s stands) long part in
    let P : List ℕ → Type 0 = λ text. AppendsPart (T c.args.sink.now) (T c.put_front.new.sink) text in
    subst P (hob_parts c.args.keyword.now (decimal c.args.kind) body some)
    (part_of_more (T c.args.sink.now) (T c.put_front.new.sink) ((c.args.keyword.now ++ 32 ∷ []) ++ (decimal c.args.kind ++ 32 ∷ [])) (encode_lower body ++ 10 ∷ []) c.in-Err.ensures.text)
