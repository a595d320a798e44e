use Rattle.std.proofs.Common.{◌≡◌, ◌∙◌, ap, arith, length, take_at}
use Rattle.trace_reader.proofs.HexWords.{not_refused, decoded, two_digits, not_decided}
use Rattle.trace_reader.proofs.ByteLines.{some_shown, bytes_found_ok}
use Rattle.trace_reader.proofs.byte_line.bytes_of.Goals as goal

pub returns-in-Err-decode_to_slice : goal.returns-in-Err-decode_to_slice
returns-in-Err-decode_to_slice c = λ bytes is.
    let some = some_shown c.args.word.now bytes (not_decided _ c.is_dash.ensures c.if-is_dash.false) is.1 in
    let long = ap length c.as_mut_slice.ensures.value in
    not_refused c.args.word.now bytes c.decode_to_slice.new.out _ c.decode_to_slice.result c.in-Err-decode_to_slice.field-0 c.decode_to_slice.ensures.value
    (omega (arith, two_digits c.args.word.now bytes some.0, c.in-Ok.ensures, long)) is.0 some.0 c.in-Err-decode_to_slice.is

pub returns : goal.returns
returns c =
    let word = c.args.word.now in let out = c.decode_to_slice.new.out in
    let long = ap length c.as_mut_slice.ensures.value in
    bytes_found_ok word c.from_vec.result c.shown_bytes.result (not_decided _ c.is_dash.ensures c.if-is_dash.false) c.shown_bytes.ensures
    (λ bytes fits is.
    let many : length bytes ≡ length c.as_mut_slice.result.now = omega (arith, two_digits word bytes is, c.in-Ok.ensures, long) in
    let same = (decoded word bytes out (length c.as_mut_slice.result.now) c.decode_to_slice.result c.decode_to_slice.ensures.value many fits is).1 in
    c.from_vec.ensures ∙ take_at out _ c.in-Ok.bytes.len (omega (arith, ap length same, many, c.as_mut_slice.ensures.len)) ∙ same)
