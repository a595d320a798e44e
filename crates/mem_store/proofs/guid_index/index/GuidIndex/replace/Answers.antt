use Rattle.std.proofs.Common.{◌≡◌, sym, subst, ◌∙◌, ap, length, List, Some, slice_get, slice_set}
use Rattle.guid_lists.specs.Places.{AreAt}
use Rattle.mem_store.specs.{declared.guid_index.index.Indexed.Indexed, Entries.has_at}
use Rattle.mem_store.proofs.Having.{replaced, risen}
use Rattle.mem_store.proofs.guid_index.index.GuidIndex.replace.Goals as goal

pub pass-requires-clause-from : goal.pass-requires-clause-from
pass-requires-clause-from c = risen c.self.inside.places c.self.inside.entries c.in-Some.old.guid c.self.invariant

pub pass-requires-clause-to : goal.pass-requires-clause-to
pass-requires-clause-to c = risen c.self.inside.places c.self.inside.entries c.args.entry.guid c.self.invariant

pub invariant_of-self : goal.invariant_of-self
invariant_of-self c =
    let list = c.self.inside.entries in
    let there : slice_get list c.args.place ≡ Some c.in-Some.old = ap (λ (l : List Indexed). slice_get l c.args.place) c.self.view_is ∙ cc in
    let set : c.set.new.self ≡ slice_set list c.args.place c.args.entry = c.set.ensures in
    subst (λ (l : List Indexed). AreAt c.pass.new.self (has_at l) (length l)) (sym set)
    (replaced c.self.inside.places c.pass.new.self list c.args.place c.in-Some.old c.args.entry there c.self.invariant c.in-Ok.ensures.ok)
