use Rattle.std.proofs.Common.{◌≡◌, ◌+◌, ◌-◌, arith, ap, take, drop}
use Rattle.hob_codec.specs.HobReading.{length_at}
use Rattle.hob_codec.proofs.read.body_at.Goals as goal

pub returns : goal.returns
returns c =
    let n : c.args.at + c.u16_at-len.result - (c.args.at + 8) ≡ length_at c.args.bytes.now c.args.at - 8 = omega (arith, c.u16_at-len.ensures) in
    ap (λ n. take n (drop (c.args.at + 8) c.args.bytes.now)) n
