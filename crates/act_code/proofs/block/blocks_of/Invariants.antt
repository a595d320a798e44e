use Rattle.std.proofs.Common.{◌≡◌, ◌-◌}
use Rattle.act_code.specs.ScriptReading.{many, block_at}
use Rattle.act_code.proofs.Many.{with_front}
use Rattle.act_code.proofs.block.blocks_of.Given as goal

abbrev pub invariant-loop : goal.invariant-loop
invariant-loop l = with_front l.blocks (many (λ _. block_at l.header) (l.header.blocks - l.counter) l.rest) ≡ many (λ _. block_at l.header) l.header.blocks l.bytes
