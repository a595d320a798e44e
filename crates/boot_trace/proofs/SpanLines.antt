-- The line of a HOB whose type and length are told.
use Rattle.std.proofs.Common.{◌≡◌, ℕ, ◌+◌, ◌-◌, ◌≤◌, arith, sym, ap, ◌∙◌, Some}
use Rattle.store_model.specs.{declared.store_handle.HobSpan.HobSpan, StoreState.StoreState, StoreState.hob_len, StateFacts.IsStoreState}
use Rattle.boot_model.specs.declared.line.Line.TheVariants as L
use Rattle.store_model.specs.Service.Reading.{hob_at}
use Rattle.boot_trace.specs.{HobLines.hob_line_at, HeapParts.IsHeapPart, HeapParts.heap_part}
use Rattle.boot_trace.proofs.HobPlaces.{told, numbered, line_at}
use Rattle.boot_trace.proofs.HeapReads.{body_part}

-- where its body stands
pub record IsBodyAt (s : StoreState) (offset : ℕ) (span : HobSpan) : Type 0 where
  pub long : 8 ≤ span.length
  pub part : IsHeapPart (s.base + offset + 8) (span.length - 8) s

pub body_at : (s : StoreState) (offset : ℕ) (span : HobSpan) → hob_at s offset ≡ Some span → IsBodyAt s offset span
body_at s offset span h =
    let n = numbered s offset span h in
    let t = told s n.0 offset span n.1 (sym h) in
    let len : hob_len t.hob ≡ span.length = ap (λ (span : HobSpan). span.length) t.told in
    let next : offset + hob_len t.hob ≡ span.next = ap (λ (span : HobSpan). span.next) t.told in
    let long : 8 ≤ span.length = omega (arith, len) in
    record { long = long; part = (omega arith, omega (arith, len, next, long, t.low)) }

pub span_line : (s : StoreState) (offset : ℕ) (span : HobSpan) → IsStoreState s → hob_at s offset ≡ Some span
    → Some (L.Hob span.kind (heap_part s (s.base + offset + 8) (span.length - 8))) ≡ hob_line_at s offset
span_line s offset span facts h =
    let n = numbered s offset span h in
    let t = told s n.0 offset span n.1 (sym h) in
    ap (λ (span : HobSpan). Some (L.Hob span.kind (heap_part s (s.base + offset + 8) (span.length - 8)))) (sym t.told)
    ∙ ap (λ body. Some (L.Hob t.hob.kind body)) (body_part s n.0 offset t.hob facts n.1 t.is) ∙ sym (line_at s n.0 offset t.hob n.1 t.is)
