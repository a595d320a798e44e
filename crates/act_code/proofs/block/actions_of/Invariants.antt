use Rattle.std.proofs.Common.{◌≡◌, ◌-◌}
use Rattle.act_code.specs.ScriptReading.{many, checked_at}
use Rattle.act_code.proofs.Many.{with_front}
use Rattle.act_code.proofs.block.actions_of.Given as goal

abbrev pub invariant-loop-done : goal.invariant-loop-done
invariant-loop-done l = with_front l.actions (many (checked_at l.header) (l.count - l.done) l.rest) ≡ many (checked_at l.header) l.count l.bytes
