use Rattle.std.proofs.Common.{subst, Ok}
use Rattle.act_code.specs.declared.action.Action.TheVariants as A
use Rattle.dxe_core.specs.{Answered.Serves, Services.Services}
use Rattle.dxe_core.proofs.Handling.{located, unlocated}
use Rattle.dxe_core.proofs.handles.locate.Goals as goal

pub returns-in-None : goal.returns-in-None
returns-in-None c = record {
  row = λ catalog frame.
      let inside = c.services.inside in
      let old : Services = record { handles = inside.handles; notes = inside.notes; order = inside.order; requested = inside.requested } in
      subst (λ s. Serves catalog s frame (A.DxeLocate c.args.h c.args.v c.args.guid.now) (Ok c.refusal.result) s) c.services.view_is
      (λ m has. unlocated catalog m frame c.args.h c.args.v c.args.guid.now old c.refusal.result has c.in-None.ensures c.refusal.ensures);
}

pub returns-in-Some : goal.returns-in-Some
returns-in-Some c = record {
  row = λ catalog frame.
      let inside = c.services.inside in
      let old : Services = record { handles = inside.handles; notes = inside.notes; order = inside.order; requested = inside.requested } in
      subst (λ s. Serves catalog s frame (A.DxeLocate c.args.h c.args.v c.args.guid.now) (Ok c.told.result) s) c.services.view_is
      (λ m has. located catalog m frame c.args.h c.args.v c.args.guid.now c.in-Some.handle c.in-Some.value old c.told.result has c.in-Some.ensures c.told.ensures);
}
