use Rattle.std.proofs.Common.{◌≡◌, ◌+◌, ◌<◌, false, [], ◌∷◌, ◌++◌, None, sym, ap, ◌∙◌, subst, arith, insert}
use Rattle.std.proofs.lemmas.List.Edits.{insert_end}
use Rattle.pi_base.proofs.ListFacts.{each_more}
use Rattle.store_model.specs.{declared.interface.Interface.Interface, HandleFacts.IsHandleState, HandleFacts.WasMade}
use Rattle.store_model.specs.HandleState.{HandleState, is_on, placed}
use Rattle.store_model.proofs.HandleFacts.{facts_are_kept}
use Rattle.guid_lists.specs.Lists.{with_number}
use Rattle.dxe_core.specs.Index.{handles_with}
use Rattle.dxe_core.proofs.{Firsts.first_fails, Firsts.unequal, HandlesWith.held_placed, HandlesWith.placed_last}
use Rattle.dxe_core.proofs.Indexes.{holders_rise, index_changes}
use Rattle.dxe_core.proofs.database.handles.Handles.install_new.Goals as goal

pub add-requires-clause-rises : goal.add-requires-clause-rises
add-requires-clause-rises c = let inside = c.self.inside in let facts = c.self.invariant.0 in holders_rise inside.holders inside.interfaces.items c.args.guid c.self.invariant.1 facts.in_order facts.once

pub invariant_of-self-2 : goal.invariant_of-self-2
invariant_of-self-2 c =
    let inside = c.self.inside in
    let is = inside.interfaces.items in
    let h : HandleState = record { interfaces = is; made = inside.made } in
    let facts : IsHandleState h = c.self.invariant.0 in
    let new : Interface = record { handle = inside.made + 1; guid = c.args.guid; value = c.args.value } in
    let last : placed new is ≡ is ++ new ∷ [] = placed_last new is (each_more (WasMade inside.made) (λ i. i.handle < new.handle) is (λ i w. let most = w.1 in omega (arith, most)) facts.made) in
    let after : c.add.new.interfaces.items ≡ is ++ new ∷ [] = c.in_ok-add.ensures.placed ∙ ap (λ k. insert is k new) (c.len-last.ensures ∙ inside.interfaces.ok.0) ∙ insert_end is new in (
      subst (λ list. IsHandleState (record { interfaces = list; made = inside.made + 1 })) (sym after) (facts_are_kept.install h None c.args.guid c.args.value facts),
      index_changes inside.holders c.add.new.holders is c.add.new.interfaces.items (with_number new.handle) c.args.guid c.self.invariant.1 c.in_ok-add.ensures.held
          (λ other. ap (handles_with other) (after ∙ sym last) ∙ held_placed new other is
          (each_more (WasMade inside.made) (λ i. is_on new.handle new.guid i ≡ false) is (λ i w. let most = w.1 in first_fails _ _ (unequal i.handle new.handle (λ same. omega (arith, most, same)))) facts.made) facts.in_order),
    )
