use Rattle.std.proofs.Common.{◌≡◌, arith, rules, length-append}
use Rattle.pi_base.specs.Field.{little_bytes}
use Rattle.hob_codec.proofs.FieldLemmas.{behind}
use Rattle.hob_codec.proofs.encode.put_resource.Goals as goal

pub returns : goal.returns
returns c =
    let e0 : c.as_slice.result.now ≡ c.args.owner.now.0 = search rules in
    let e1 : c.as_slice-2.result.now ≡ little_bytes 4 c.args.kind = search rules in
    let e2 : c.as_slice-3.result.now ≡ little_bytes 4 c.args.attributes = search rules in
    let e3 : c.as_slice-4.result.now ≡ little_bytes 8 c.args.start = search rules in
    let e4 : c.as_slice-5.result.now ≡ little_bytes 8 c.args.len = search rules in
    behind c.args.out.now c.put_fields.new.out _ (rw (e0, e1, e2, e3, e4) at c.put_fields.ensures) (simp length-append (omega arith))
