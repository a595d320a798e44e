use Rattle.std.proofs.Common.{◌≡◌, arith, rules}
use Rattle.pi_base.specs.Field.{little_bytes}
use Rattle.hob_codec.proofs.FieldLemmas.{behind}
use Rattle.hob_codec.proofs.encode.put_handoff.Goals as goal

pub returns : goal.returns
returns c =
    let e0 : c.as_slice.result.now ≡ little_bytes 4 9 = search rules in
    let e1 : c.as_slice-2.result.now ≡ little_bytes 4 c.args.handoff.now.boot_mode = search rules in
    let e2 : c.as_slice-3.result.now ≡ little_bytes 8 c.args.handoff.now.top = search rules in
    let e3 : c.as_slice-4.result.now ≡ little_bytes 8 c.args.handoff.now.bottom = search rules in
    let e4 : c.as_slice-5.result.now ≡ little_bytes 8 c.args.handoff.now.free_top = search rules in
    let e5 : c.as_slice-6.result.now ≡ little_bytes 8 c.args.handoff.now.free_bottom = search rules in
    let e6 : c.as_slice-7.result.now ≡ little_bytes 8 c.args.handoff.now.end = search rules in
    behind c.args.out.now c.put_fields.new.out _ (rw (e0, e1, e2, e3, e4, e5, e6) at c.put_fields.ensures) (omega arith)
