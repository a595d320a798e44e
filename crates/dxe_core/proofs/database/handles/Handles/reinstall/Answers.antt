use Rattle.std.proofs.Common.{◌≡◌, Err, Ok, sym, ap, ◌∙◌, subst, arith, slice_set}
use Rattle.std.proofs.lemmas.Result.{err_from_is_err_and}
use Rattle.store_model.specs.HandleState.{HandleState, is_on_with, with_value, reinstall_interface}
use Rattle.store_model.specs.HandleFacts.{IsHandleState}
use Rattle.dxe_core.specs.{Index.handles_with, Places.IsPlaceWith, Rows.IsRow}
use Rattle.dxe_core.proofs.HandlesWith.{held_valued}
use Rattle.dxe_core.proofs.Done.{Found, reinstalled, reinstall_kept, unchanged, valued_is}
use Rattle.dxe_core.proofs.database.handles.Handles.reinstall.Goals as goal

pub index_mut-requires : goal.index_mut-requires
index_mut-requires c =
    let below = rw c.deref.ensures.value at c.in_ok-place.ensures.within in
    let len = c.self.inside.interfaces.ok.0 in omega (arith, below, len)

found : (c : goal.After-self-1) → Found (record { interfaces = c.self.inside.interfaces.items; made = c.self.inside.made }) c.args.on c.args.guid c.args.old c.in_ok-place.place
found c = let place = rw c.deref.ensures.value at c.in_ok-place.ensures.place in record { lives = place.0; first = place.1 }

changed : (c : goal.After-self-1)
    → slice_set c.self.inside.interfaces.items c.in_ok-place.place (record c.index_mut.result.now { value = c.args.new }) ≡ with_value (is_on_with c.args.on c.args.guid c.args.old) c.args.new c.self.inside.interfaces.items
changed c =
    valued_is (record { interfaces = c.self.inside.interfaces.items; made = c.self.inside.made }) c.args.on c.args.guid c.args.old c.args.new c.in_ok-place.place c.index_mut.result.now (found c) c.index_mut.ensures.value

pub invariant_of-self : goal.invariant_of-self
invariant_of-self c =
    let inside = c.self.inside in
    let h : HandleState = record { interfaces = inside.interfaces.items; made = inside.made } in (
      subst (λ list. IsHandleState (record { interfaces = list; made = inside.made })) (sym (changed c)) (reinstall_kept h c.args.on c.args.guid c.args.old c.args.new c.in_ok-place.place (found c) c.self.invariant.0),
      λ guid. c.self.invariant.1 guid ∙ sym (held_valued (is_on_with c.args.on c.args.guid c.args.old) c.args.new guid h.interfaces) ∙ ap (handles_with guid) (sym (changed c)),
    )

pub returns-clause-row : goal.returns-clause-row
returns-clause-row c =
    let inside = c.self.inside in
    let h : HandleState = record { interfaces = inside.interfaces.items; made = inside.made } in
    let list = slice_set inside.interfaces.items c.in_ok-place.place (record c.index_mut.result.now { value = c.args.new }) in
    subst (λ old. reinstall_interface old c.args.on c.args.guid c.args.old c.args.new ≡ Ok (tt {0}, record { interfaces = list; made = inside.made })) c.self.view_is
    (reinstalled h c.args.on c.args.guid c.args.old c.args.new c.in_ok-place.place (found c) ∙ ap (λ list. Ok (tt {0}, record { interfaces = list; made = inside.made })) (sym (changed c)))

pub returns-in_err-place-clause-row : goal.returns-in_err-place-clause-row
returns-in_err-place-clause-row c =
    let inside = c.self.inside in
    let h : HandleState = record { interfaces = inside.interfaces.items; made = inside.made } in
    let fault = c.in_err-place.field-0.0 in
    let p = err_from_is_err_and c.from_residual.result c.from_residual.ensures.1 in
    rw (p.1, p.2) (subst (λ old. IsRow (reinstall_interface old c.args.on c.args.guid c.args.old c.args.new) old (Err fault) old) c.self.view_is
    (unchanged h c.args.on c.args.guid c.args.old (with_value (is_on_with c.args.on c.args.guid c.args.old) c.args.new h.interfaces) fault (subst (λ is. IsPlaceWith is c.args.on c.args.guid c.args.old (Err fault)) c.deref.ensures.value c.in_err-place.ensures.place)))
