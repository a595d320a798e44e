use Rattle.std.proofs.Common.{refl}
use Rattle.act_code.proofs.Actions.{parts_as}
use Rattle.act_code.proofs.action.Action.operands.Goals as goal

pub returns-in-Set : goal.returns-in-Set
returns-in-Set c = parts_as _ _ _ c.in-Set.is refl

pub returns-in-Add : goal.returns-in-Add
returns-in-Add c = parts_as _ _ _ c.in-Add.is refl

pub returns-in-Pool : goal.returns-in-Pool
returns-in-Pool c = parts_as _ _ _ c.in-Pool.is refl

pub returns-in-Store : goal.returns-in-Store
returns-in-Store c = parts_as _ _ _ c.in-Store.is refl

pub returns-in-Addr : goal.returns-in-Addr
returns-in-Addr c = parts_as _ _ _ c.in-Addr.is refl

pub returns-in-Peek : goal.returns-in-Peek
returns-in-Peek c = parts_as _ _ _ c.in-Peek.is refl

pub returns-in-Desc : goal.returns-in-Desc
returns-in-Desc c = parts_as _ _ _ c.in-Desc.is refl

pub returns-in-Install : goal.returns-in-Install
returns-in-Install c = parts_as _ _ _ c.in-Install.is refl

pub returns-in-Reinstall : goal.returns-in-Reinstall
returns-in-Reinstall c = parts_as _ _ _ c.in-Reinstall.is refl

pub returns-in-Notify : goal.returns-in-Notify
returns-in-Notify c = parts_as _ _ _ c.in-Notify.is refl

pub returns-in-Locate : goal.returns-in-Locate
returns-in-Locate c = parts_as _ _ _ c.in-Locate.is refl

pub returns-in-Hob : goal.returns-in-Hob
returns-in-Hob c = parts_as _ _ _ c.in-Hob.is refl

pub returns-in-Memory : goal.returns-in-Memory
returns-in-Memory c = parts_as _ _ _ c.in-Memory.is refl

pub returns-in-Pages : goal.returns-in-Pages
returns-in-Pages c = parts_as _ _ _ c.in-Pages.is refl

pub returns-in-BootMode : goal.returns-in-BootMode
returns-in-BootMode c = parts_as _ _ _ c.in-BootMode.is refl

pub returns-in-Log : goal.returns-in-Log
returns-in-Log c = parts_as _ _ _ c.in-Log.is refl

pub returns-in-SkipIf : goal.returns-in-SkipIf
returns-in-SkipIf c = parts_as _ _ _ c.in-SkipIf.is refl

pub returns-in-Ret : goal.returns-in-Ret
returns-in-Ret c = parts_as _ _ _ c.in-Ret.is refl

pub returns-in-DxeInstall : goal.returns-in-DxeInstall
returns-in-DxeInstall c = parts_as _ _ _ c.in-DxeInstall.is refl

pub returns-in-DxeReinstall : goal.returns-in-DxeReinstall
returns-in-DxeReinstall c = parts_as _ _ _ c.in-DxeReinstall.is refl

pub returns-in-DxeUninstall : goal.returns-in-DxeUninstall
returns-in-DxeUninstall c = parts_as _ _ _ c.in-DxeUninstall.is refl

pub returns-in-DxeLocate : goal.returns-in-DxeLocate
returns-in-DxeLocate c = parts_as _ _ _ c.in-DxeLocate.is refl

pub returns-in-DxeNotify : goal.returns-in-DxeNotify
returns-in-DxeNotify c = parts_as _ _ _ c.in-DxeNotify.is refl

pub returns-in-Schedule : goal.returns-in-Schedule
returns-in-Schedule c = parts_as _ _ _ c.in-Schedule.is refl

pub returns-in-Process : goal.returns-in-Process
returns-in-Process c = parts_as _ _ _ c.in-Process.is refl
