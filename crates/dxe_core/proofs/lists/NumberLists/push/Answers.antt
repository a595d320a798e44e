use Rattle.std.proofs.Common.{sym, ◌∙◌, ap, ◌≡◌, [], ◌∷◌, ◌++◌, Some, None, is_some}
use Rattle.dxe_core.specs.{declared.lists.NumberLists.NumberLists, Lists.numbers_under, Lists.IsPushed}
use Rattle.dxe_core.proofs.Listed.{found, pushed, on_ok}
use Rattle.dxe_core.proofs.lists.NumberLists.push.Goals as goal

pub returns-in-Some : goal.returns-in-Some
returns-in-Some c =
    let numbers = c.push.new.numbers in
    let old = c.args.self.now in
    let new : NumberLists = record { lists = c.get_mut.follows.lender numbers; alloc = old.alloc } in
    let had : c.in-Some.numbers.now.items ≡ numbers_under old c.args.name = found old c.args.name (Some c.in-Some.numbers.now) c.in-Some.ensures.value in
    let writes = (c.get_mut.follows.holds numbers).3 (sym (ap is_some c.in-Some.ensures.value)) in
    on_ok c.push.result (numbers.items ≡ c.in-Some.numbers.now.items ++ c.args.number ∷ []) (IsPushed old (Some c.args.name) c.args.number new)
    (λ e. pushed old new c.args.name numbers c.args.number writes.0 (e ∙ ap (λ xs. xs ++ c.args.number ∷ []) had)) c.push.ensures

pub returns-in-Ok : goal.returns-in-Ok
returns-in-Ok c =
    let numbers = c.push-in-None.new.numbers in
    let old = c.args.self.now in
    let new : NumberLists = record { lists = c.insert.new.self; alloc = old.alloc } in
    let none : [] ≡ numbers_under old c.args.name = found old c.args.name None c.in-None.ensures.value in
    let empty : c.new-numbers.result.items ≡ [] = c.new-numbers.ensures.items in
    let writes = c.in-Ok.ensures.updates.0 in
    pushed old new c.args.name numbers c.args.number (rw c.get_mut.follows.holds-at-none at writes) (c.in_ok-push-in-None.ensures ∙ ap (λ xs. xs ++ c.args.number ∷ []) (empty ∙ none))
