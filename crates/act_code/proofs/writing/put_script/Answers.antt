use Rattle.std.proofs.Common.{sym, subst, All, List}
use Rattle.act_code.specs.{declared.action.Action.Action, Script.IsWritableBlock}
use Rattle.act_code.proofs.Writable.{script_writable}
use Rattle.act_code.proofs.writing.put_script.Goals as goal

pub put_blocks-requires : goal.put_blocks-requires
put_blocks-requires c = subst (λ (blocks : List (List Action)). All IsWritableBlock blocks) (sym c.as_slice.ensures) (script_writable c.args.script.now c.requires)
