use Rattle.std.proofs.Common.{refl, sym, subst, ◌∙◌}
use Rattle.pi_base.specs.{declared.word.Word.TheVariants.AlreadyStarted, declared.phase.Phase.TheVariants.Dxe}
use Rattle.act_code.specs.declared.action.Action.TheVariants as A
use Rattle.boot_model.specs.declared.line.CallName.TheVariants as C
use Rattle.dxe_core.proofs.{Replying.refuses, Grammar.at_most}
use Rattle.phase_parts.specs.Needs.{IsScriptAction}
use Rattle.dxe_core.specs.Reply.{IsReply, Replies}
use Rattle.dxe_core.proofs.Taking.{counts, counts_where, flags_where, more}
use Rattle.dxe_core.proofs.action.take_own.Goals as goal

pub read_memory-requires-clause-state : goal.read_memory-requires-clause-state
read_memory-requires-clause-state g c = c.requires.state

pub install-requires : goal.install-requires
install-requires g c = record { counted = c.requires.counted }

pub reinstall-requires : goal.reinstall-requires
reinstall-requires g c = record { counted = c.requires.counted }

pub read_memory-requires-clause-few : goal.read_memory-requires-clause-few
read_memory-requires-clause-few g c = let is = subst (IsScriptAction Dxe) c.in-Peek.is c.requires.action in at_most c.in-Peek.n is.0.in_range.1

pub returns-in-DxeInstall : goal.returns-in-DxeInstall
returns-in-DxeInstall g c = record {
  row = λ m stands are waits. subst (λ a. Replies c.args.catalog.now m c.args.frame.now a c.install.result c.install.new.services) (sym c.in-DxeInstall.is) (c.install.ensures.row c.args.catalog.now m are);
  made = flags_where c.args.services.now c.install.new.services c.install.result c.requires.made c.install.ensures.grow;
  counted = counts_where c.args.services.now c.install.new.services c.install.result c.install.ensures.grow;
}

pub returns-in-DxeReinstall : goal.returns-in-DxeReinstall
returns-in-DxeReinstall g c = record {
  row = λ m stands are waits. subst (λ a. Replies c.args.catalog.now m c.args.frame.now a c.reinstall.result c.reinstall.new.services) (sym c.in-DxeReinstall.is) (c.reinstall.ensures.row c.args.catalog.now m are);
  made = flags_where c.args.services.now c.reinstall.new.services c.reinstall.result c.requires.made c.reinstall.ensures.grow;
  counted = counts_where c.args.services.now c.reinstall.new.services c.reinstall.result c.reinstall.ensures.grow;
}

pub returns-in-DxeUninstall : goal.returns-in-DxeUninstall
returns-in-DxeUninstall g c = record {
  row = λ m stands are waits. subst (λ a. Replies c.args.catalog.now m c.args.frame.now a c.uninstall.result c.uninstall.new.services) (sym c.in-DxeUninstall.is) (c.uninstall.ensures.row c.args.catalog.now m are);
  made = flags_where c.args.services.now c.uninstall.new.services c.uninstall.result c.requires.made c.uninstall.ensures.grow;
  counted = counts_where c.args.services.now c.uninstall.new.services c.uninstall.result c.uninstall.ensures.grow;
}

pub returns-in-DxeNotify : goal.returns-in-DxeNotify
returns-in-DxeNotify g c = record {
  row = λ m stands are waits. subst (λ a. Replies c.args.catalog.now m c.args.frame.now a c.notify.result c.notify.new.services) (sym c.in-DxeNotify.is) (c.notify.ensures.row c.args.catalog.now m are);
  made = flags_where c.args.services.now c.notify.new.services c.notify.result c.requires.made c.notify.ensures.grow;
  counted = counts_where c.args.services.now c.notify.new.services c.notify.result c.notify.ensures.grow;
}

pub returns-in-Process : goal.returns-in-Process
returns-in-Process g c = record {
  row = λ m stands are waits. subst (λ a. Replies c.args.catalog.now m c.args.frame.now a c.process.result c.process.new.services) (sym c.in-Process.is) (c.process.ensures.row m are);
  made = flags_where c.args.services.now c.process.new.services c.process.result c.requires.made c.process.ensures.grow;
  counted = counts_where c.args.services.now c.process.new.services c.process.result c.process.ensures.grow;
}

pub returns-in-Schedule : goal.returns-in-Schedule
returns-in-Schedule g c = record {
  row = λ m stands are waits. subst (λ a. IsReply c.args.catalog.now m c.args.frame.now a c.schedule.result c.schedule.new.services) (sym c.in-Schedule.is) (c.schedule.ensures.row c.args.frame.now m are waits);
  made = c.schedule.ensures.grow.flags ∙ c.requires.made;
  counted = λ n counted. counts c.args.services.now c.schedule.new.services n c.schedule.ensures.grow counted;
}

pub returns-in-DxeLocate : goal.returns-in-DxeLocate
returns-in-DxeLocate g c = record {
  row = λ m stands are waits. subst (λ a. IsReply c.args.catalog.now m c.args.frame.now a c.locate.result c.args.services.now) (sym c.in-DxeLocate.is) (c.locate.ensures.row c.args.catalog.now c.args.frame.now m are);
  made = c.requires.made;
  counted = λ n counted. more c.args.services.now n counted;
}

pub returns-in-Peek : goal.returns-in-Peek
returns-in-Peek g c = record {
  row = λ m stands are waits. subst (λ a. IsReply c.args.catalog.now m c.args.frame.now a c.read_memory.result c.args.services.now) (sym c.in-Peek.is) (c.read_memory.ensures.row c.args.catalog.now c.args.services.now m stands are);
  made = c.requires.made;
  counted = λ n counted. more c.args.services.now n counted;
}

pub returns-in-Dispatch-clause-row : goal.returns-in-Dispatch-clause-row
returns-in-Dispatch-clause-row g c = λ m stands are waits.
    subst (λ a. IsReply c.args.catalog.now m c.args.frame.now a c.refusal.result c.args.services.now) (sym c.in-Dispatch.is)
    (refuses c.args.catalog.now m c.args.frame.now A.Dispatch c.refusal.result c.args.services.now C.Dispatch AlreadyStarted refl are c.refusal.ensures refl)
