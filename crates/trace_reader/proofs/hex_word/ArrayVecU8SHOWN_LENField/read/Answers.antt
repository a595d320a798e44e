use Rattle.std.proofs.Common.{arith}
use Rattle.trace_reader.proofs.HexWords.{not_refused, decoded, read_back, two_digits}
use Rattle.trace_reader.specs.Readable.{IsShown}
use Rattle.trace_reader.proofs.hex_word.ArrayVecU8SHOWN_LENField.read.Goals as goal

pub returns-in_default-clause-found : goal.returns-in_default-clause-found
returns-in_default-clause-found c = λ shown is.
    let twice = two_digits c.args.word.now shown.items is.1 in
    c.in_default.ensures (omega (arith, twice, is.0.0), omega (arith, twice, is.0.1))

pub returns-in-Err-clause-found : goal.returns-in-Err-clause-found
returns-in-Err-clause-found c = λ shown is.
    let twice = two_digits c.args.word.now shown.items is.1 in
    not_refused c.args.word.now shown.items c.decode_to_slice.new.out _ c.decode_to_slice.result c.in-Err.field-0 c.decode_to_slice.ensures.value
    (omega (arith, twice, c.split_at_mut-bytes.ensures.front_len, c.in-Some.ensures.0)) is.0.2 is.1 c.in-Err.is

pub returns-clause-found : goal.returns-clause-found
returns-clause-found c =
    let word = c.args.word.now in let out = c.decode_to_slice.new.out in
    read_back (λ shown. shown.items) (λ shown. IsShown shown.items) word out c.shown_of.result c.shown_of.ensures
    (λ shown fits is. (decoded word shown.items out _ c.decode_to_slice.result c.decode_to_slice.ensures.value (omega (arith, two_digits word shown.items is, c.split_at_mut-bytes.ensures.front_len, c.in-Some.ensures.0)) fits.2 is).1)
