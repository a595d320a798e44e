use Rattle.std.proofs.Common.{◌≡◌, ◌++◌, take, flat_map}
use Rattle.asm_text.specs.ScriptText.{line, block_text, action_line}
use Rattle.asm_text.proofs.script_text.put_block.Given as goal

abbrev pub invariant-loop-action : goal.invariant-loop-action
invariant-loop-action l = l.out ≡ l.fn.out ++ (line block_text ++ flat_map action_line (take l.action-index l.actions))
