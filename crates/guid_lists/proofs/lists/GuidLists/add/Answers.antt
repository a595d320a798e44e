use Rattle.std.proofs.Common.{sym, ◌∙◌, ap, ◌≡◌, ℕ, List, [], is_some}
use Rattle.guid_lists.specs.declared.lists.GuidLists.{GuidLists}
use Rattle.guid_lists.specs.Lists.{list_of, with_number, HasInstead, HaveStill}
use Rattle.guid_lists.proofs.Holding.{numbers_in, written, unchanged, on_ok, on_err}
use Rattle.guid_lists.proofs.lists.GuidLists.add.Goals as goal

pub returns-in-Some-clause-ok : goal.returns-in-Some-clause-ok
returns-in-Some-clause-ok c =
    let numbers = c.put.new.numbers in
    let old = c.args.self.now in
    let new : GuidLists = record { lists = c.get_mut.follows.lender numbers } in
    let list : List ℕ = with_number c.args.number (list_of old c.args.guid) in
    let had : c.in-Some.numbers.now.items ≡ list_of old c.args.guid = ap numbers_in c.in-Some.ensures.value in
    let writes = (c.get_mut.follows.holds numbers).3 (sym (ap is_some c.in-Some.ensures.value)) in
    on_ok c.put.result (numbers.items ≡ with_number c.args.number c.in-Some.numbers.now.items) (HasInstead old c.args.guid list new)
    (λ e. written old new c.args.guid numbers list writes.0 (e ∙ ap (with_number c.args.number) had)) c.put.ensures.ok

pub returns-in-Some-clause-err : goal.returns-in-Some-clause-err
returns-in-Some-clause-err c =
    let numbers = c.put.new.numbers in
    let old = c.args.self.now in
    let new : GuidLists = record { lists = c.get_mut.follows.lender numbers } in
    let had : c.in-Some.numbers.now.items ≡ list_of old c.args.guid = ap numbers_in c.in-Some.ensures.value in
    let writes = (c.get_mut.follows.holds numbers).3 (sym (ap is_some c.in-Some.ensures.value)) in
    on_err c.put.result (numbers.items ≡ c.in-Some.numbers.now.items) (HaveStill old new) (λ e. unchanged old new c.args.guid numbers writes.0 (e ∙ had)) c.put.ensures.err

pub returns-in-Ok-clause-ok : goal.returns-in-Ok-clause-ok
returns-in-Ok-clause-ok c =
    let numbers = c.put-in-None.new.numbers in
    let old = c.args.self.now in
    let new : GuidLists = record { lists = c.insert.new.self } in
    let list : List ℕ = with_number c.args.number (list_of old c.args.guid) in
    let none : [] ≡ list_of old c.args.guid = ap numbers_in c.in-None.ensures.value in
    let empty : c.new-numbers.result.items ≡ [] = c.new-numbers.ensures.items in
    let put = c.in_ok-put-in-None.ensures.ok in
    let writes = c.in-Ok.ensures.updates.0 in
    written old new c.args.guid numbers list (rw c.get_mut.follows.holds-at-none at writes) (put ∙ ap (with_number c.args.number) (empty ∙ none))
