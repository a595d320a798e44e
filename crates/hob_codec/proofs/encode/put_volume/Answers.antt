use Rattle.std.proofs.Common.{◌≡◌, arith, rules}
use Rattle.pi_base.specs.Field.{little_bytes}
use Rattle.hob_codec.proofs.FieldLemmas.{behind}
use Rattle.hob_codec.proofs.encode.put_volume.Goals as goal

pub returns : goal.returns
returns c =
    let e0 : c.as_slice.result.now ≡ little_bytes 8 c.args.base = search rules in
    let e1 : c.as_slice-2.result.now ≡ little_bytes 8 c.args.len = search rules in
    behind c.args.out.now c.put_fields.new.out _ (rw (e0, e1) at c.put_fields.ensures) (omega arith)
