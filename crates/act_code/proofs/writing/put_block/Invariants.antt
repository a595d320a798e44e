use Rattle.std.proofs.Common.{◌≡◌, ◌++◌, length, take, flat_map}
use Rattle.pi_base.specs.Field.{little_bytes}
use Rattle.act_code.specs.Script.{action_bytes}
use Rattle.act_code.proofs.writing.put_block.Given as goal

abbrev pub invariant-loop-action : goal.invariant-loop-action
invariant-loop-action l = l.out ≡ l.fn.out ++ (little_bytes 2 (length l.actions) ++ flat_map action_bytes (take l.action-index l.actions))
