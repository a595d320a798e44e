use Rattle.std.proofs.Common.{sym, ◌∙◌, ap, ◌≡◌, ℕ, List, is_some}
use Rattle.guid_lists.specs.{declared.lists.GuidLists.GuidLists, Lists.list_of, Lists.without_number}
use Rattle.guid_lists.proofs.Holding.{numbers_in, written}
use Rattle.guid_lists.proofs.lists.GuidLists.remove.Goals as goal

pub returns-in-Some : goal.returns-in-Some
returns-in-Some c =
    let numbers = c.take.new.numbers in
    let old = c.args.self.now in
    let new : GuidLists = record { lists = c.get_mut.follows.lender numbers } in
    let list : List ℕ = without_number c.args.number (list_of old c.args.guid.now) in
    let had : c.in-Some.numbers.now.items ≡ list_of old c.args.guid.now = ap numbers_in c.in-Some.ensures.value in
    let writes = (c.get_mut.follows.holds numbers).3 (sym (ap is_some c.in-Some.ensures.value)) in
    written old new c.args.guid.now numbers list writes.0 (c.take.ensures ∙ ap (without_number c.args.number) had)
