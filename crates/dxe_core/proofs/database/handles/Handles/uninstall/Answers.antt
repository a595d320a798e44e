use Rattle.std.proofs.Common.{◌≡◌, Err, Ok, sym, ap, ◌∙◌, subst}
use Rattle.std.proofs.lemmas.Result.{err_from_is_err_and}
use Rattle.store_model.specs.HandleState.{HandleState, is_on_with, without, uninstall_interface}
use Rattle.store_model.specs.HandleFacts.{IsHandleState}
use Rattle.guid_lists.specs.Lists.{without_number}
use Rattle.dxe_core.specs.{Index.handles_with, Places.IsPlaceWith, Rows.IsRow}
use Rattle.dxe_core.proofs.{Firsts.removed, HandlesWith.held_without, Indexes.holders_rise, Indexes.index_changes}
use Rattle.dxe_core.proofs.Done.{Found, unchanged, uninstalled, uninstall_kept}
use Rattle.dxe_core.proofs.database.handles.Handles.uninstall.Goals as goal

pub remove-requires-2 : goal.remove-requires-2
remove-requires-2 c = let inside = c.self.inside in let facts = c.self.invariant.0 in holders_rise inside.holders inside.interfaces.items c.args.guid c.self.invariant.1 facts.in_order facts.once

found : (c : goal.After-remove-2) → Found (record { interfaces = c.self.inside.interfaces.items; made = c.self.inside.made }) c.args.on c.args.guid c.args.value c.in_ok-place.place
found c = let place = rw c.deref.ensures.value at c.in_ok-place.ensures.place in record { lives = place.0; first = place.1 }

taken : (c : goal.After-remove-2) → c.remove.new.self.items ≡ without (is_on_with c.args.on c.args.guid c.args.value) c.self.inside.interfaces.items
taken c = c.remove.ensures.items ∙ sym (removed (is_on_with c.args.on c.args.guid c.args.value) c.self.inside.interfaces.items c.in_ok-place.place (found c).first)

pub invariant_of-self : goal.invariant_of-self
invariant_of-self c =
    let inside = c.self.inside in
    let h : HandleState = record { interfaces = inside.interfaces.items; made = inside.made } in
    let facts : IsHandleState h = c.self.invariant.0 in (
      subst (λ list. IsHandleState (record { interfaces = list; made = inside.made })) (sym (taken c)) (uninstall_kept h c.args.on c.args.guid c.args.value c.in_ok-place.place (found c) facts),
      index_changes inside.holders c.remove-2.new.self h.interfaces c.remove.new.self.items (without_number c.args.on) c.args.guid c.self.invariant.1 c.remove-2.ensures
          (λ other. ap (handles_with other) (taken c) ∙ held_without c.args.on c.args.guid c.args.value other h.interfaces c.in_ok-place.place facts.once (found c).first),
    )

pub returns-clause-row : goal.returns-clause-row
returns-clause-row c =
    let inside = c.self.inside in
    let h : HandleState = record { interfaces = inside.interfaces.items; made = inside.made } in
    subst (λ old. uninstall_interface old c.args.on c.args.guid c.args.value ≡ Ok (tt {0}, record { interfaces = c.remove.new.self.items; made = inside.made })) c.self.view_is
    (uninstalled h c.args.on c.args.guid c.args.value c.in_ok-place.place (found c) ∙ ap (λ list. Ok (tt {0}, record { interfaces = list; made = inside.made })) (sym (taken c)))

pub returns-in_err-place-clause-row : goal.returns-in_err-place-clause-row
returns-in_err-place-clause-row c =
    let inside = c.self.inside in
    let h : HandleState = record { interfaces = inside.interfaces.items; made = inside.made } in
    let fault = c.in_err-place.field-0.0 in
    let p = err_from_is_err_and c.from_residual.result c.from_residual.ensures.1 in
    rw (p.1, p.2) (subst (λ old. IsRow (uninstall_interface old c.args.on c.args.guid c.args.value) old (Err fault) old) c.self.view_is
    (unchanged h c.args.on c.args.guid c.args.value (without (is_on_with c.args.on c.args.guid c.args.value) h.interfaces) fault (subst (λ is. IsPlaceWith is c.args.on c.args.guid c.args.value (Err fault)) c.deref.ensures.value c.in_err-place.ensures.place)))
