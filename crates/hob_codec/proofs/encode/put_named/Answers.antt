use Rattle.std.proofs.Common.{◌≡◌, length, arith, rules}
use Rattle.hob_codec.specs.HobBytes.{padding}
use Rattle.hob_codec.proofs.FieldLemmas.{named_is}
use Rattle.hob_codec.proofs.encode.put_named.Goals as goal

pub returns : goal.returns
returns c =
    let name : c.as_slice.result.now ≡ c.args.name.now.0 = search rules in
    named_is c.args.out.now c.put_field.new.out c.put_padded.new.out c.args.name.now.0 c.args.body.now (padding (length c.args.body.now)) c.put_padded.ensures (rw name at c.put_field.ensures) (omega arith)
