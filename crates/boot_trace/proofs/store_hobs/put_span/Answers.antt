use Rattle.std.proofs.Common.{◌≡◌, ◌+◌, Option, Some, arith, ap, ◌∙◌, subst, IsSomeAnd}
use Rattle.boot_io.specs.Sink.{Puts}
use Rattle.boot_model.specs.{declared.line.Line.Line, Text.line_text}
use Rattle.boot_model.specs.declared.line.Line.TheVariants as L
use Rattle.boot_trace.specs.HeapParts.{IsHeapPart, heap_part}
use Rattle.boot_trace.proofs.{HobBounds.low_heap, SpanLines.body_at, SpanLines.span_line}
use Rattle.boot_trace.proofs.store_hobs.put_span.Goals as goal

pub overflow_add-at : goal.overflow_add-at
overflow_add-at g c =
    let s = c.requires.state in
    let body = body_at s.0 c.args.offset c.args.span.now s.2 in
    omega (arith, c.base.ensures.row s.0 s.1 tt, body.long, body.part.1, low_heap s.0 (g.met.M.PeiStore.facts c.args.store.now s.0 s.1))

pub overflow_add-at-2 : goal.overflow_add-at-2
overflow_add-at-2 g c =
    let s = c.requires.state in
    let body = body_at s.0 c.args.offset c.args.span.now s.2 in
    omega (arith, c.base.ensures.row s.0 s.1 tt, body.long, body.part.1, low_heap s.0 (g.met.M.PeiStore.facts c.args.store.now s.0 s.1))

pub overflow_sub-span : goal.overflow_sub-span
overflow_sub-span g c =
    let s = c.requires.state in
    omega (arith, (body_at s.0 c.args.offset c.args.span.now s.2).long)

pub put_heap_line-requires : goal.put_heap_line-requires
put_heap_line-requires g c =
    let s = c.requires.state in
    let body = body_at s.0 c.args.offset c.args.span.now s.2 in
    let place : c.base.result + c.args.offset + c.from.result ≡ s.0.base + c.args.offset + 8 = omega (arith, c.base.ensures.row s.0 s.1 tt, c.from.ensures) in
    record { state = (s.0, s.1, (omega (arith, place), omega (arith, place, c.from-len.ensures, body.part.1))) }

pub returns-clause-text : goal.returns-clause-text
returns-clause-text g c s stands h =
    let T = g.S.Sink.text in
    let body = body_at s c.args.offset c.args.span.now h in
    let at = c.base.result + c.args.offset + c.from.result in
    let kind = c.args.span.now.kind in
    let place : at ≡ s.base + c.args.offset + 8 = omega (arith, c.base.ensures.row s stands tt, c.from.ensures) in
    let part : IsHeapPart at c.from-len.result s = (omega (arith, place), omega (arith, place, c.from-len.ensures, body.part.1)) in
    let P : Option Line → Type 0 = λ o. IsSomeAnd o (λ line. Puts c.put_heap_line.result (T c.args.sink.now) (T c.put_heap_line.new.sink) (line_text line)) in
    let line = ap (λ k. Some (L.Hob kind (heap_part s k c.from-len.result))) place ∙ ap (λ n. Some (L.Hob kind (heap_part s (s.base + c.args.offset + 8) n))) c.from-len.ensures
    ∙ span_line s c.args.offset c.args.span.now (g.met.M.PeiStore.facts c.args.store.now s stands) h in
    subst P line (c.put_heap_line.ensures.text s stands part)
