use Rattle.std.proofs.Common.{◌+◌, Option, arith, sym, ◌∙◌, subst, IsSomeAnd}
use Rattle.std.specs.Io.KnownBytes.{Appends}
use Rattle.boot_io.specs.Sink.{AppendsPart}
use Rattle.boot_model.specs.{declared.line.Line.Line, Listing.hob_lines_from, Text.line_text}
use Rattle.boot_trace.specs.HobLines.{all_hobs}
use Rattle.boot_trace.proofs.HobBounds.{small_heap}
use Rattle.boot_trace.proofs.HobPlaces.{told, none_left, hob_place, line_of_hob, line_at, line_in, lines_len}
use Rattle.boot_trace.proofs.PutLines.{next_line, next_part, all_lines}
use Rattle.boot_io.proofs.PutsLaws.{puts_err}
use Rattle.boot_trace.proofs.store_hobs.put_hob_lines.Goals as goal

pub hob_at-requires : goal.hob_at-requires
hob_at-requires g c =
    let s = c.requires.state in
    let i = c.hobs.invariant.text s.0 s.1 in
    record { state = (s.0, s.1, hob_place s.0 i.0 c.hobs.offset i.1 i.2) }

pub put_span-requires : goal.put_span-requires
put_span-requires g c =
    let s = c.requires.state in
    let i = c.hobs.invariant.text s.0 s.1 in
    record { state = (s.0, s.1, sym (c.in-Some.ensures.row s.0 s.1 (hob_place s.0 i.0 c.hobs.offset i.1 i.2))) }

pub hobs-smaller : goal.hobs-smaller
hobs-smaller g c =
    let s = c.requires.state in
    let i = c.hobs.invariant.text s.0 s.1 in
    let t = told s.0 i.0 c.hobs.offset c.in-Some.span i.2 (c.in-Some.ensures.row s.0 s.1 (hob_place s.0 i.0 c.hobs.offset i.1 i.2)) in
    omega (arith, t.more, t.low, small_heap s.0 (g.met.M.PeiStore.facts c.args.store.now s.0 s.1))

pub hobs-preserved : goal.hobs-preserved
hobs-preserved g c =
    let T = g.S.Sink.text in
    record {
      text = λ s stands.
          let i = c.hobs.invariant.text s stands in
          let h = c.in-Some.ensures.row s stands (hob_place s i.0 c.hobs.offset i.1 i.2) in
          let t = told s i.0 c.hobs.offset c.in-Some.span i.2 h in
          let line = line_of_hob s c.hobs.offset t.hob in
          let P : Option Line → Type 0 = λ o. IsSomeAnd o (λ line. Appends (T c.hobs.sink) (T c.put_span.new.sink) (line_text line)) in
          let put : Appends (T c.hobs.sink) (T c.put_span.new.sink) (line_text line) = subst P (line_at s i.0 c.hobs.offset t.hob i.2 t.is) (c.in_ok-put_span.ensures.text s stands (sym h)) in
          (i.0 + 1, omega (arith, t.within), t.next, next_line line_text (hob_lines_from s 0 (all_hobs s)) i.0 line (T c.args.sink.now) (T c.hobs.sink) (T c.put_span.new.sink) (line_in s i.0 c.hobs.offset t.hob i.2 t.is) i.3 put);
      count = c.in_ok-put_span.ensures.cause ∙ c.hobs.invariant.count;
    }

pub returns-in_err-put_span-clause-text : goal.returns-in_err-put_span-clause-text
returns-in_err-put_span-clause-text g c s stands needs =
    let T = g.S.Sink.text in
    let i = c.hobs.invariant.text s stands in
    let h = c.in-Some.ensures.row s stands (hob_place s i.0 c.hobs.offset i.1 i.2) in
    let t = told s i.0 c.hobs.offset c.in-Some.span i.2 h in
    let line = line_of_hob s c.hobs.offset t.hob in
    let P : Option Line → Type 0 = λ o. IsSomeAnd o (λ line. AppendsPart (T c.hobs.sink) (T c.put_span.new.sink) (line_text line)) in
    let put : AppendsPart (T c.hobs.sink) (T c.put_span.new.sink) (line_text line) = subst P (line_at s i.0 c.hobs.offset t.hob i.2 t.is) (c.in_err-put_span.ensures.text s stands (sym h)) in
    puts_err c.from_residual.result (T c.args.sink.now) (T c.put_span.new.sink) _ c.from_residual.ensures.0
    (next_part line_text (hob_lines_from s 0 (all_hobs s)) i.0 line (T c.args.sink.now) (T c.hobs.sink) (T c.put_span.new.sink) (line_in s i.0 c.hobs.offset t.hob i.2 t.is) i.3 put)

pub returns-clause-text : goal.returns-clause-text
returns-clause-text g c s stands needs =
    let T = g.S.Sink.text in
    let i = c.hobs.invariant.text s stands in
    let high = none_left s i.0 c.hobs.offset i.2 (c.in_default.ensures.row s stands (hob_place s i.0 c.hobs.offset i.1 i.2)) in
    all_lines line_text (hob_lines_from s 0 (all_hobs s)) i.0 (T c.args.sink.now) (T c.hobs.sink) (omega (arith, lines_len s (all_hobs s) 0, high)) i.3
