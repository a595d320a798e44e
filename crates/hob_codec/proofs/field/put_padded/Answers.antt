use Rattle.std.proofs.Common.{◌≡◌, ◌-◌, length, arith}
use Rattle.std.proofs.lemmas.List.{length-replicate}
use Rattle.hob_codec.specs.HobBytes.{padded_len, padding}
use Rattle.hob_codec.proofs.FieldLemmas.{padded_is}
use Rattle.hob_codec.proofs.field.put_padded.Goals as goal

pub returns : goal.returns
returns c =
    let body = c.args.body.now in let n = length body in
    let zeros : length (padding n) ≡ padded_len n - n = length-replicate (padded_len n - n) 0 in
    padded_is c.args.at c.args.out.now c.put_field.new.out c.put_field-2.new.out body (padding n) (rw c.padding.ensures at c.put_field-2.ensures) c.put_field.ensures (omega (arith, zeros, c.requires.len))
