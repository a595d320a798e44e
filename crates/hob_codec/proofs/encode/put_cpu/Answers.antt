use Rattle.std.proofs.Common.{◌≡◌, ◌∷◌, [], arith, rules, replicate}
use Rattle.hob_codec.proofs.FieldLemmas.{behind}
use Rattle.hob_codec.proofs.encode.put_cpu.Goals as goal

pub returns : goal.returns
returns c =
    let e0 : c.as_slice.result.now ≡ c.args.memory ∷ c.args.io ∷ [] = search rules in
    let e1 : c.as_slice-2.result.now ≡ replicate 6 0 = search rules in
    behind c.args.out.now c.put_fields.new.out _ (rw (e0, e1) at c.put_fields.ensures) (omega arith)
