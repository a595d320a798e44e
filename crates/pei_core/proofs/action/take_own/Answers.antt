use Rattle.std.proofs.Common.{◌≡◌, true, length, refl, subst, ap, sym, ◌∙◌, Ok}
use Rattle.pi_base.specs.declared.phase.Phase.TheVariants.{Pei}
use Rattle.act_code.specs.declared.action.Action.TheVariants as A
use Rattle.act_code.specs.Format.{is_hob}
use Rattle.phase_parts.specs.Needs.{IsScriptAction}
use Rattle.boot_model.specs.PeiAction.{effect}
use Rattle.pei_core.specs.declared.taken.Taken.TheVariants as T
use Rattle.pei_core.proofs.{OwnActions.acts_of, OwnActions.reads_of, Changing.changes_nothing, Changing.changes_of}
use Rattle.pei_core.proofs.Grammar.{block, few_in, at_most}
use Rattle.pei_core.proofs.action.take_own.Goals as goal

pub read_memory-requires-clause-few : goal.read_memory-requires-clause-few
read_memory-requires-clause-few g c = let is = subst (IsScriptAction Pei) c.in-Peek.is c.requires.action in at_most c.in-Peek.n is.0.in_range.1

pub make_descriptor-requires-clause-arg : goal.make_descriptor-requires-clause-arg
make_descriptor-requires-clause-arg g c = let is = subst (IsScriptAction Pei) c.in-Desc.is c.requires.action in block c.in-Desc.kind c.in-Desc.arg _ is.1

pub install_ppis-requires-clause-few : goal.install_ppis-requires-clause-few
install_ppis-requires-clause-few g c = let is = subst (IsScriptAction Pei) c.in-Install.is c.requires.action in few_in c.in-Install.list c.as_slice-in-Install.result.now c.as_slice-in-Install.ensures is.0.in_range

pub notify_ppis-requires-clause-few : goal.notify_ppis-requires-clause-few
notify_ppis-requires-clause-few g c = let is = subst (IsScriptAction Pei) c.in-Notify.is c.requires.action in few_in c.in-Notify.list c.as_slice-in-Notify.result.now c.as_slice-in-Notify.ensures is.0.in_range

pub make_hob-requires-clause-hob : goal.make_hob-requires-clause-hob
make_hob-requires-clause-hob g c = let is = subst (IsScriptAction Pei) c.in-Hob.is c.requires.action in subst (λ xs. is_hob c.in-Hob.kind (length xs) ≡ true) (sym c.as_slice-in-Hob.ensures) is.0.in_range

pub returns-in-Pool : goal.returns-in-Pool
returns-in-Pool g c = record {
  row = acts_of g.M.PeiStore.TAKES_MEMORY (g.M.PeiStore.stands_for c.args.store.now) (g.M.PeiStore.stands_for c.make_pool.new.store) c.args.action.now (A.Pool c.in-Pool.r c.in-Pool.size) c.args.frame.now c.make_pool.result c.in-Pool.is (c.make_pool.ensures.row c.args.frame.now);
  changes = λ s stood held. changes_nothing s c.args.frame.now c.args.action.now (A.Pool c.in-Pool.r c.in-Pool.size) c.make_pool.result c.in-Pool.is refl refl c.make_pool.ensures.changes;
}

pub returns-in-Peek : goal.returns-in-Peek
returns-in-Peek g c = record {
  row = reads_of g.M.PeiStore.TAKES_MEMORY (g.M.PeiStore.stands_for c.args.store.now) c.args.action.now (A.Peek c.in-Peek.v c.in-Peek.n) c.args.frame.now c.read_memory.result c.in-Peek.is c.read_memory.ensures.row;
  changes = λ s stood held. changes_nothing s c.args.frame.now c.args.action.now (A.Peek c.in-Peek.v c.in-Peek.n) (Ok c.read_memory.result) c.in-Peek.is refl refl c.read_memory.ensures.changes;
}

pub returns-in-Reinstall : goal.returns-in-Reinstall
returns-in-Reinstall g c = record {
  row = acts_of g.M.PeiStore.TAKES_MEMORY (g.M.PeiStore.stands_for c.args.store.now) (g.M.PeiStore.stands_for c.reinstall_ppi.new.store) c.args.action.now (A.Reinstall c.in-Reinstall.old c.in-Reinstall.new) c.args.frame.now c.reinstall_ppi.result c.in-Reinstall.is c.reinstall_ppi.ensures.row;
  changes = λ s stood held. changes_of s c.args.frame.now c.args.action.now (A.Reinstall c.in-Reinstall.old c.in-Reinstall.new) c.reinstall_ppi.result c.in-Reinstall.is (c.reinstall_ppi.ensures.changes s stood held);
}

pub returns-in-Hob : goal.returns-in-Hob
returns-in-Hob g c = record {
  row = acts_of g.M.PeiStore.TAKES_MEMORY (g.M.PeiStore.stands_for c.args.store.now) (g.M.PeiStore.stands_for c.make_hob.new.store) c.args.action.now (A.Hob c.in-Hob.kind c.as_slice-in-Hob.result.now) c.args.frame.now c.make_hob.result (c.in-Hob.is ∙ ap (λ xs. A.Hob c.in-Hob.kind xs) (sym c.as_slice-in-Hob.ensures)) (c.make_hob.ensures.row c.args.frame.now);
  changes = λ s stood held. changes_nothing s c.args.frame.now c.args.action.now (A.Hob c.in-Hob.kind c.as_slice-in-Hob.result.now) c.make_hob.result (c.in-Hob.is ∙ ap (λ xs. A.Hob c.in-Hob.kind xs) (sym c.as_slice-in-Hob.ensures)) refl refl c.make_hob.ensures.changes;
}

pub returns-in-Pages : goal.returns-in-Pages
returns-in-Pages g c = record {
  row = acts_of g.M.PeiStore.TAKES_MEMORY (g.M.PeiStore.stands_for c.args.store.now) (g.M.PeiStore.stands_for c.take_pages.new.store) c.args.action.now (A.Pages c.in-Pages.r c.in-Pages.memory_type c.in-Pages.count) c.args.frame.now c.take_pages.result c.in-Pages.is (c.take_pages.ensures.row c.args.frame.now);
  changes = λ s stood held. changes_nothing s c.args.frame.now c.args.action.now (A.Pages c.in-Pages.r c.in-Pages.memory_type c.in-Pages.count) c.take_pages.result c.in-Pages.is refl refl c.take_pages.ensures.changes;
}

pub returns-in-Addr : goal.returns-in-Addr
returns-in-Addr g c = record {
  row = reads_of g.M.PeiStore.TAKES_MEMORY (g.M.PeiStore.stands_for c.args.store.now) c.args.action.now (A.Addr c.in-Addr.v c.in-Addr.x c.in-Addr.offset) c.args.frame.now c.write_address.result c.in-Addr.is c.write_address.ensures.row;
  changes = λ s stood held. changes_nothing s c.args.frame.now c.args.action.now (A.Addr c.in-Addr.v c.in-Addr.x c.in-Addr.offset) (Ok c.write_address.result) c.in-Addr.is refl refl c.write_address.ensures.changes;
}

pub returns-in-Store : goal.returns-in-Store
returns-in-Store g c = record {
  row = acts_of g.M.PeiStore.TAKES_MEMORY (g.M.PeiStore.stands_for c.args.store.now) (g.M.PeiStore.stands_for c.write_pool.new.store) c.args.action.now (A.Store c.in-Store.p c.in-Store.offset c.as_slice.result.now) c.args.frame.now (Ok c.write_pool.result) (c.in-Store.is ∙ ap (λ xs. A.Store c.in-Store.p c.in-Store.offset xs) (sym c.as_slice.ensures)) c.write_pool.ensures.row;
  changes = λ s stood held. changes_nothing s c.args.frame.now c.args.action.now (A.Store c.in-Store.p c.in-Store.offset c.as_slice.result.now) (Ok c.write_pool.result) (c.in-Store.is ∙ ap (λ xs. A.Store c.in-Store.p c.in-Store.offset xs) (sym c.as_slice.ensures)) refl refl c.write_pool.ensures.changes;
}

pub returns-in-Desc : goal.returns-in-Desc
returns-in-Desc g c = record {
  row = acts_of g.M.PeiStore.TAKES_MEMORY (g.M.PeiStore.stands_for c.args.store.now) (g.M.PeiStore.stands_for c.make_descriptor.new.store) c.args.action.now (A.Desc c.in-Desc.d c.in-Desc.kind c.in-Desc.guid c.in-Desc.arg) c.args.frame.now c.make_descriptor.result c.in-Desc.is c.make_descriptor.ensures.row;
  changes = λ s stood held. changes_nothing s c.args.frame.now c.args.action.now (A.Desc c.in-Desc.d c.in-Desc.kind c.in-Desc.guid c.in-Desc.arg) c.make_descriptor.result c.in-Desc.is refl refl c.make_descriptor.ensures.changes;
}

pub returns-in-Install : goal.returns-in-Install
returns-in-Install g c = record {
  row = acts_of g.M.PeiStore.TAKES_MEMORY (g.M.PeiStore.stands_for c.args.store.now) (g.M.PeiStore.stands_for c.install_ppis.new.store) c.args.action.now (A.Install c.as_slice-in-Install.result.now) c.args.frame.now c.install_ppis.result (c.in-Install.is ∙ ap (λ xs. A.Install xs) (sym c.as_slice-in-Install.ensures)) c.install_ppis.ensures.row;
  changes = λ s stood held. changes_of s c.args.frame.now c.args.action.now (A.Install c.as_slice-in-Install.result.now) c.install_ppis.result (c.in-Install.is ∙ ap (λ xs. A.Install xs) (sym c.as_slice-in-Install.ensures)) (c.install_ppis.ensures.changes s stood held);
}

pub returns-in-Notify : goal.returns-in-Notify
returns-in-Notify g c = record {
  row = acts_of g.M.PeiStore.TAKES_MEMORY (g.M.PeiStore.stands_for c.args.store.now) (g.M.PeiStore.stands_for c.notify_ppis.new.store) c.args.action.now (A.Notify c.as_slice-in-Notify.result.now) c.args.frame.now c.notify_ppis.result (c.in-Notify.is ∙ ap (λ xs. A.Notify xs) (sym c.as_slice-in-Notify.ensures)) c.notify_ppis.ensures.row;
  changes = λ s stood held. changes_nothing s c.args.frame.now c.args.action.now (A.Notify c.as_slice-in-Notify.result.now) c.notify_ppis.result (c.in-Notify.is ∙ ap (λ xs. A.Notify xs) (sym c.as_slice-in-Notify.ensures)) refl refl c.notify_ppis.ensures.changes;
}

pub returns-in-Locate : goal.returns-in-Locate
returns-in-Locate g c = record {
  row = reads_of g.M.PeiStore.TAKES_MEMORY (g.M.PeiStore.stands_for c.args.store.now) c.args.action.now (A.Locate c.in-Locate.d c.in-Locate.v c.in-Locate.guid c.in-Locate.instance) c.args.frame.now c.locate_ppi.result c.in-Locate.is (c.locate_ppi.ensures.row c.args.frame.now);
  changes = λ s stood held. changes_nothing s c.args.frame.now c.args.action.now (A.Locate c.in-Locate.d c.in-Locate.v c.in-Locate.guid c.in-Locate.instance) (Ok c.locate_ppi.result) c.in-Locate.is refl refl c.locate_ppi.ensures.changes;
}

pub returns-in-Memory : goal.returns-in-Memory
returns-in-Memory g c = record {
  row = acts_of g.M.PeiStore.TAKES_MEMORY (g.M.PeiStore.stands_for c.args.store.now) (g.M.PeiStore.stands_for c.plan_memory.new.store) c.args.action.now (A.Memory c.in-Memory.begin c.in-Memory.length) c.args.frame.now c.plan_memory.result c.in-Memory.is c.plan_memory.ensures.row;
  changes = λ s stood held. changes_nothing s c.args.frame.now c.args.action.now (A.Memory c.in-Memory.begin c.in-Memory.length) c.plan_memory.result c.in-Memory.is refl refl c.plan_memory.ensures.changes;
}

pub returns-in-BootMode : goal.returns-in-BootMode
returns-in-BootMode g c = record {
  row = acts_of g.M.PeiStore.TAKES_MEMORY (g.M.PeiStore.stands_for c.args.store.now) (g.M.PeiStore.stands_for c.boot_mode.new.store) c.args.action.now (A.BootMode c.in-BootMode.form c.in-BootMode.r) c.args.frame.now (Ok c.boot_mode.result) c.in-BootMode.is c.boot_mode.ensures.row;
  changes = λ s stood held. changes_nothing s c.args.frame.now c.args.action.now (A.BootMode c.in-BootMode.form c.in-BootMode.r) (Ok c.boot_mode.result) c.in-BootMode.is refl refl c.boot_mode.ensures.changes;
}

pub returns-in-Shadow : goal.returns-in-Shadow
returns-in-Shadow g c = record {
  row = λ old h. (old, (ap (λ a. effect old c.args.frame.now a) c.in-Shadow.is, refl), h.0);
  changes = λ s stood held. changes_nothing s c.args.frame.now c.args.action.now A.Shadow (Ok T.Shadowed) c.in-Shadow.is refl refl refl;
}
