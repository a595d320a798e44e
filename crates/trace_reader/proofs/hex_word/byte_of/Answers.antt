use Rattle.std.proofs.Common.{◌<◌, ◌^◌, ap, refl, [], ◌∷◌, get_or}
use Rattle.trace_reader.proofs.HexWords.{not_refused, decoded, one_byte, read_back}
use Rattle.trace_reader.proofs.hex_word.byte_of.Goals as goal

pub returns-in-Err : goal.returns-in-Err
returns-in-Err c = λ byte is. not_refused c.args.word.now (byte ∷ []) c.decode_to_slice.new.out 1 c.decode_to_slice.result c.in-Err.field-0 c.decode_to_slice.ensures.value refl (one_byte byte is.0) is.1 c.in-Err.is

pub returns : goal.returns
returns c =
    let word = c.args.word.now in let out = c.decode_to_slice.new.out in
    read_back (λ byte. byte ∷ []) (λ byte. byte < 2 ^ 8) word (get_or out 0 0 ∷ []) c.printed_byte.result c.printed_byte.ensures
    (λ byte fits is. ap (λ xs. get_or xs 0 0 ∷ []) (decoded word (byte ∷ []) out 1 c.decode_to_slice.result c.decode_to_slice.ensures.value refl (one_byte byte fits) is).1)
