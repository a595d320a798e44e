use Rattle.std.proofs.Common.{◌≡◌, Ok, Err, refl, sym, ap, ◌∙◌, subst}
use Rattle.pi_base.specs.declared.word.Word.TheVariants.{InvalidParameter}
use Rattle.store_model.specs.{declared.interface.Interface.Interface, HandleFacts.IsHandleState}
use Rattle.store_model.specs.HandleState.{HandleState, install_on, placed}
use Rattle.guid_lists.specs.Lists.{with_number}
use Rattle.dxe_core.specs.{Index.handles_with, Rows.IsRow}
use Rattle.dxe_core.proofs.{Stretches.not_live, Stretches.placed_is, Firsts.each_fails, HandlesWith.held_placed}
use Rattle.dxe_core.proofs.{HandleRows.install_dead, HandleRows.install_again, Indexes.holders_rise, Indexes.index_changes}
use Rattle.dxe_core.proofs.Done.{any_of_place, memory_row, Free, free_by, on_done, on_ok_row, on_kept}
use Rattle.dxe_core.proofs.database.handles.Handles.install_on.Goals as goal
use Rattle.dxe_core.proofs.database.handles.Handles.install_on.Goals.{then-stretch-via-then-stretch, then-stretch-via-else-stretch+then-is_some}

pub returns-then-stretch : goal.returns-then-stretch
returns-then-stretch c =
    let inside = c.self.inside in
    let h : HandleState = record { interfaces = inside.interfaces.items; made = inside.made } in
    let s = c.stretch_of-stretch in
    let refused : install_on h c.args.handle c.args.guid c.args.value ≡ Err InvalidParameter =
    elim c.then-stretch.branch [
      | then-stretch-via-then-stretch w ↦
          install_dead h c.args.handle c.args.guid c.args.value (not_live c.args.handle h.interfaces s.result.begin s.result.end (rw c.deref.ensures.value at s.ensures.stretch) w.if-stretch.true)
      | then-stretch-via-else-stretch+then-is_some w ↦
          install_again h c.args.handle c.args.guid c.args.value
          (any_of_place h.interfaces c.args.handle c.args.guid w.place_in.result (rw (w.deref-else-stretch.ensures.value, s.ensures.handle) at w.place_in.ensures.place) (sym w.is_some.ensures ∙ w.if-is_some.true))
    ] in
    (subst (λ h. install_on h c.args.handle c.args.guid c.args.value ≡ Err InvalidParameter) c.self.view_is refused, refl)

pub add-requires-clause-rises : goal.add-requires-clause-rises
add-requires-clause-rises c = let inside = c.self.inside in let facts = c.self.invariant.0 in holders_rise inside.holders inside.interfaces.items c.args.guid c.self.invariant.1 facts.in_order facts.once

pub returns-in_err-add : goal.returns-in_err-add
returns-in_err-add c =
    let inside = c.self.inside in
    let h : HandleState = record { interfaces = inside.interfaces.items; made = inside.made } in
    let s = c.stretch_of-stretch in
    let free : Free h c.args.handle c.args.guid =
    free_by h c.args.handle c.args.guid s.result.begin s.result.end c.place_in.result (rw c.deref.ensures.value at s.ensures.stretch) s.ensures.within.0 c.if-stretch.false
    (rw (c.deref-else-stretch.ensures.value, s.ensures.handle) at c.place_in.ensures.place) (sym c.is_some.ensures ∙ c.if-is_some.false) in
    let same : record { interfaces = c.add.new.interfaces.items; made = inside.made } ≡ h = ap (λ list. record { interfaces = list; made = inside.made }) c.in_err-add.ensures.same in
    let row : IsRow (install_on h c.args.handle c.args.guid c.args.value) h c.from_residual.result (record { interfaces = c.add.new.interfaces.items; made = inside.made }) =
    memory_row (install_on h c.args.handle c.args.guid c.args.value) h (record { interfaces = c.add.new.interfaces.items; made = inside.made }) c.from_residual.result c.from_residual.ensures
    (on_ok_row h c.args.handle c.args.guid c.args.value free) same in
    subst (λ old. IsRow (install_on old c.args.handle c.args.guid c.args.value) old c.from_residual.result (record { interfaces = c.add.new.interfaces.items; made = inside.made })) c.self.view_is row

free_of : (c : goal.In_ok-add) → Free (record { interfaces = c.self.inside.interfaces.items; made = c.self.inside.made }) c.args.handle c.args.guid
free_of c =
    let h : HandleState = record { interfaces = c.self.inside.interfaces.items; made = c.self.inside.made } in
    let s = c.stretch_of-stretch in
    free_by h c.args.handle c.args.guid s.result.begin s.result.end c.place_in.result (rw c.deref.ensures.value at s.ensures.stretch) s.ensures.within.0 c.if-stretch.false
    (rw (c.deref-else-stretch.ensures.value, s.ensures.handle) at c.place_in.ensures.place) (sym c.is_some.ensures ∙ c.if-is_some.false)

-- the list with the new interface
abbrev new_one : goal.In_ok-add → Interface
new_one c = record { handle = c.args.handle; guid = c.args.guid; value = c.args.value }

after : (c : goal.In_ok-add) → c.add.new.interfaces.items ≡ placed (new_one c) c.self.inside.interfaces.items
after c =
    let s = c.stretch_of-stretch in
    c.in_ok-add.ensures.placed ∙ sym (placed_is (new_one c) c.self.inside.interfaces.items s.result.begin s.result.end (rw c.deref.ensures.value at s.ensures.stretch))

pub invariant_of-self-2 : goal.invariant_of-self-2
invariant_of-self-2 c =
    let inside = c.self.inside in
    let h : HandleState = record { interfaces = inside.interfaces.items; made = inside.made } in
    let facts : IsHandleState h = c.self.invariant.0 in (
      subst (λ list. IsHandleState (record { interfaces = list; made = inside.made })) (sym (after c)) (on_kept h c.args.handle c.args.guid c.args.value (free_of c) facts),
      index_changes inside.holders c.add.new.holders h.interfaces c.add.new.interfaces.items (with_number c.args.handle) c.args.guid c.self.invariant.1 c.in_ok-add.ensures.held
          (λ other. ap (handles_with other) (after c) ∙ held_placed (new_one c) other h.interfaces (each_fails _ h.interfaces (free_of c).none) facts.in_order),
    )

pub returns : goal.returns
returns c =
    let inside = c.self.inside in
    let h : HandleState = record { interfaces = inside.interfaces.items; made = inside.made } in
    let done = on_done h c.args.handle c.args.guid c.args.value (free_of c) in
    subst (λ old. install_on old c.args.handle c.args.guid c.args.value ≡ Ok (c.args.handle, record { interfaces = c.add.new.interfaces.items; made = inside.made })) c.self.view_is
    (done ∙ ap (λ list. Ok (c.args.handle, record { interfaces = list; made = inside.made })) (sym (after c)))
