use Rattle.std.proofs.Common.{◌≡◌, Some, None, ◌∙◌, subst}
use Rattle.store_model.specs.HandleState.{HandleState, locate_handle}
use Rattle.dxe_core.proofs.Done.{located_none, located_not_on, located_on}
use Rattle.dxe_core.proofs.database.handles.Handles.locate.Goals as goal

pub returns-in_err-handle : goal.returns-in_err-handle
returns-in_err-handle c =
    let inside = c.self.inside in
    let h : HandleState = record { interfaces = inside.interfaces.items; made = inside.made } in
    let guid = c.args.guid.now in
    c.from_residual.ensures ∙ subst (λ h. None ≡ locate_handle h guid) c.self.view_is (located_none h guid c.of.result.now c.in_err-handle.ensures.value (c.of.ensures ∙ c.self.invariant.1 guid))

pub returns-in-Some : goal.returns-in-Some
returns-in-Some c =
    let inside = c.self.inside in
    let h : HandleState = record { interfaces = inside.interfaces.items; made = inside.made } in
    let guid = c.args.guid.now in
    let handle = c.in_ok-handle.field-0.now in
    let i = c.index.result.now in
    subst (λ h. Some (handle, i.value) ≡ locate_handle h guid) c.self.view_is
    (located_on h guid handle c.in-Some.place c.of.result.now i c.in_ok-handle.ensures.value (c.of.ensures ∙ c.self.invariant.1 guid)
    (rw (c.deref-2.ensures.value, c.stretch_of-stretch.ensures.handle) at c.in-Some.ensures.place) c.index.ensures)

pub returns-in-None : goal.returns-in-None
returns-in-None c =
    let inside = c.self.inside in
    let h : HandleState = record { interfaces = inside.interfaces.items; made = inside.made } in
    let guid = c.args.guid.now in
    let handle = c.in_ok-handle.field-0.now in
    subst (λ h. None ≡ locate_handle h guid) c.self.view_is
    (located_not_on h guid handle c.of.result.now c.in_ok-handle.ensures.value (c.of.ensures ∙ c.self.invariant.1 guid)
    (rw (c.deref-2.ensures.value, c.stretch_of-stretch.ensures.handle) at c.in-None.ensures.place))
