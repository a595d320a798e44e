use Rattle.std.proofs.Common.{ap, arith}
use Rattle.phase_parts.specs.Peeked.{told_at}
use Rattle.phase_parts.proofs.PeekedBytes.{not_told, told}
use Rattle.phase_parts.proofs.reading.peek.Goals as goal

pub returns-in-None : goal.returns-in-None
returns-in-None g c = λ s stands any. ap (told_at s c.args.n) c.in-None.ensures

pub returns-then-peek : goal.returns-then-peek
returns-then-peek g c = λ s stands any.
    told s c.args.registers.now c.args.v c.args.n c.in-Some.at c.truncate.new.self.items c.as_mut_slice.result.now c.peek.new.into c.in-Some.ensures c.as_mut_slice.ensures.value
    (omega (arith, c.truncate.ensures.len, c.requires.few)) c.peek.auto.into (c.if-peek.ensures.row s stands any)

pub returns-else-peek : goal.returns-else-peek
returns-else-peek g c = λ s stands any.
    not_told s c.args.registers.now c.args.v c.args.n c.in-Some.at c.truncate.new.self.items c.as_mut_slice.result.now c.in-Some.ensures c.as_mut_slice.ensures.value
    (omega (arith, c.truncate.ensures.len, c.requires.few)) (c.if-peek.ensures.row s stands any).0
