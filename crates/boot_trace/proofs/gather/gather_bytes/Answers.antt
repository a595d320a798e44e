use Rattle.std.proofs.Common.{◌≡◌, ◌++◌, List, ℕ, [], Ok, Err, refl, sym, ap, ◌∙◌, append_assoc, drop, subst, take-append-drop}
use Rattle.hex.specs.Hex.{encode_lower}
use Rattle.boot_io.specs.{Line.Gathers, Sink.AppendsPart}
use Rattle.boot_io.proofs.PutsLaws.{gathers_then, gathers_fails, gathers_err}
use Rattle.boot_trace.proofs.{Hexadecimal.encode_lower-append, Hexadecimal.encode_lower-none, PieceTexts.none_gathered}
use Rattle.boot_trace.proofs.gather.gather_bytes.Goals as goal

pub parts-init : goal.parts-init
parts-init g c =
    let T = g.S.Sink.text in
    let P : List ℕ → Type 0 = λ text. Gathers (Ok tt) (T c.args.sink.now) (T c.args.sink.now) c.args.line.now.items c.args.line.now.items text in
    record { text = ([], subst P (sym encode_lower-none) (none_gathered (T c.args.sink.now) c.args.line.now.items), refl); count = refl }

pub parts-preserved : goal.parts-preserved
parts-preserved g c =
    let T = g.S.Sink.text in
    let before = c.parts.invariant.text in
    let line = c.args.line.now.items in
    let piece = c.split_at.result.0.now in
    let rest = c.split_at.result.1.now in
    let cut : c.parts.rest.now ≡ piece ++ rest =
    sym (take-append-drop 64 c.parts.rest.now) ∙ ap (λ t. t ++ drop 64 c.parts.rest.now) (sym c.split_at.ensures.front) ∙ ap (λ t. piece ++ t) (sym c.split_at.ensures.back) in
    let P : List ℕ → Type 0 = λ text. Gathers (Ok tt) (T c.args.sink.now) (T c.gather_encoded.new.sink) line c.gather_encoded.new.line.items text in
    record {
      text = (
        before.0 ++ piece,
        subst P (sym (encode_lower-append before.0 piece))
            (gathers_then (Ok tt) (T c.args.sink.now) (T c.parts.sink) (T c.gather_encoded.new.sink) line c.parts.line.items c.gather_encoded.new.line.items (encode_lower before.0) (encode_lower piece) before.1 c.in_ok-gather_encoded.ensures.text),
        before.2 ∙ ap (λ t. before.0 ++ t) cut ∙ sym (append_assoc before.0 piece rest),
      );
      count = c.in_ok-gather_encoded.ensures.cause ∙ c.parts.invariant.count;
    }

pub returns-in_err-gather_encoded-clause-text : goal.returns-in_err-gather_encoded-clause-text
returns-in_err-gather_encoded-clause-text g c =
    let T = g.S.Sink.text in
    let before = c.parts.invariant.text in
    let line = c.args.line.now.items in
    let piece = c.split_at.result.0.now in
    let rest = c.split_at.result.1.now in
    let cut : c.parts.rest.now ≡ piece ++ rest =
    sym (take-append-drop 64 c.parts.rest.now) ∙ ap (λ t. t ++ drop 64 c.parts.rest.now) (sym c.split_at.ensures.front) ∙ ap (λ t. piece ++ t) (sym c.split_at.ensures.back) in
    let whole : (encode_lower before.0 ++ encode_lower piece) ++ encode_lower rest ≡ encode_lower c.args.bytes.now =
    append_assoc (encode_lower before.0) (encode_lower piece) (encode_lower rest) ∙ ap (λ t. encode_lower before.0 ++ t) (sym (encode_lower-append piece rest) ∙ ap encode_lower (sym cut))
    ∙ sym (encode_lower-append before.0 c.parts.rest.now) ∙ ap encode_lower (sym before.2) in
    let P : List ℕ → Type 0 = λ text. AppendsPart (T c.args.sink.now) (T c.gather_encoded.new.sink) (line ++ text) in
    let met = gathers_then (Err c.in_err-gather_encoded.field-0.0) (T c.args.sink.now) (T c.parts.sink) (T c.gather_encoded.new.sink) line c.parts.line.items c.gather_encoded.new.line.items
    (encode_lower before.0) (encode_lower piece) before.1 c.in_err-gather_encoded.ensures.text in
    gathers_err c.from_residual.result (T c.args.sink.now) (T c.gather_encoded.new.sink) line c.gather_encoded.new.line.items (encode_lower c.args.bytes.now) c.from_residual.ensures.0
    (subst P whole (gathers_fails (T c.args.sink.now) (T c.gather_encoded.new.sink) line (encode_lower before.0 ++ encode_lower piece) (encode_lower rest) met))

pub returns-clause-text : goal.returns-clause-text
returns-clause-text g c =
    let T = g.S.Sink.text in
    let before = c.parts.invariant.text in
    let line = c.args.line.now.items in
    let whole : encode_lower before.0 ++ encode_lower c.parts.rest.now ≡ encode_lower c.args.bytes.now = sym (encode_lower-append before.0 c.parts.rest.now) ∙ ap encode_lower (sym before.2) in
    let P : List ℕ → Type 0 = λ text. Gathers c.gather_encoded-2.result (T c.args.sink.now) (T c.gather_encoded-2.new.sink) line c.gather_encoded-2.new.line.items text in
    subst P whole
    (gathers_then c.gather_encoded-2.result (T c.args.sink.now) (T c.parts.sink) (T c.gather_encoded-2.new.sink) line c.parts.line.items c.gather_encoded-2.new.line.items (encode_lower before.0) (encode_lower c.parts.rest.now)
    before.1 c.gather_encoded-2.ensures.text)
