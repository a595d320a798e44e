use Rattle.std.proofs.Common.{◌≡◌, ◌+◌, ◌-◌, arith}
use Rattle.source_words.proofs.{Depths.closes, Codes.written}
use Rattle.source_words.proofs.depex.walk.Walk.close.Goals as goal

pub returns : goal.returns
returns c =
    let old = c.args.self.now in (
      omega arith,
      (λ rest.
          let less : old.depth ≡ (old.depth - 1) + 1 = omega arith in (
            rw c.requires.ended (closes old.depth (old.depth - 1) rest less),
            rw c.requires.ended (written old.code c.put_operators.new.code old.waiting c.put_operators.new.stack rest c.in_ok-put_operators.ensures.code c.in_ok-put_operators.ensures.stack),
          )),
    )
