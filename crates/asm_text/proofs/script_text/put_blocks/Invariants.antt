use Rattle.std.proofs.Common.{◌≡◌, ◌++◌, take, flat_map}
use Rattle.asm_text.specs.ScriptText.{block_lines}
use Rattle.asm_text.proofs.script_text.put_blocks.Given as goal

abbrev pub invariant-loop-actions : goal.invariant-loop-actions
invariant-loop-actions l = l.out ≡ l.fn.out ++ flat_map block_lines (take l.actions-index l.blocks)
