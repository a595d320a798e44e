-- What is in the grammar can be written.
use Rattle.std.proofs.Common.{ℕ, ◌-◌, List, [], ◌∷◌, length, All, arith}
use Rattle.std.specs.List.{AllByRecursion}
use Rattle.std.proofs.lemmas.List.Elements.{All-from_recursion}
use Rattle.pi_base.specs.declared.phase.Phase.{Phase}
use Rattle.act_code.specs.{declared.action.Action.Action, declared.script.Script.Script}
use Rattle.act_code.specs.Script.{Each, IsSound, IsBlock, IsWritable, IsWritableBlock, IsInGrammar}
use Rattle.act_code.proofs.Formats.{within_le}

actions_writable : (phase : Phase) (count left : ℕ) (actions : List Action) → Each (IsSound phase count) left actions → AllByRecursion IsWritable actions
actions_writable phase count left [] sound = tt
actions_writable phase count left (a ∷ actions) sound = (sound.0.is.in_range, actions_writable phase count (left - 1) actions sound.1)

blocks_writable : (phase : Phase) (count left : ℕ) (blocks : List (List Action)) → Each (λ _. IsBlock phase count) left blocks → AllByRecursion IsWritableBlock blocks
blocks_writable phase count left [] are = tt
blocks_writable phase count left (block ∷ blocks) are =
    ((omega (arith, within_le 1 1024 (length block) are.0.number), All-from_recursion IsWritable block (actions_writable phase count (length block) block are.0.sound)), blocks_writable phase count (left - 1) blocks are.1)

pub script_writable : (s : Script) → IsInGrammar s → All IsWritableBlock s.blocks
script_writable s is = All-from_recursion IsWritableBlock s.blocks (blocks_writable s.phase (length s.blocks) (length s.blocks) s.blocks is.blocks)
