use Rattle.std.proofs.Common.{◌++◌, length, take, ap, ◌∙◌, sym, append-nil}
use Rattle.hob_codec.specs.HobBytes.{padding}
use Rattle.hob_codec.proofs.encode.put_data.Goals as goal

pub returns : goal.returns
returns c =
    let zeros = padding (length c.args.body.now) in
    c.put_padded.ensures ∙ ap (λ l. take 8 c.args.out.now ++ (c.args.body.now ++ l)) (sym (append-nil zeros))
