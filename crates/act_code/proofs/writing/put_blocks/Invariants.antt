use Rattle.std.proofs.Common.{◌≡◌, ◌++◌, take, flat_map}
use Rattle.act_code.specs.Script.{block_bytes}
use Rattle.act_code.proofs.writing.put_blocks.Given as goal

abbrev pub invariant-loop-actions : goal.invariant-loop-actions
invariant-loop-actions l = l.out ≡ l.fn.out ++ flat_map block_bytes (take l.actions-index l.blocks)
