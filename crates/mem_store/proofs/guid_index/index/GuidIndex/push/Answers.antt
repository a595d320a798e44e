use Rattle.std.proofs.Common.{◌≡◌, sym, subst, ◌∙◌, length, ◌++◌, ◌∷◌, [], List}
use Rattle.guid_lists.specs.Lists.{HasInstead, list_of, with_number}
use Rattle.guid_lists.specs.Places.{AreAt}
use Rattle.mem_store.specs.{declared.guid_index.index.Indexed.Indexed, Entries.has_at}
use Rattle.mem_store.proofs.Having.{pushed, risen}
use Rattle.mem_store.proofs.guid_index.index.GuidIndex.push.Goals as goal

pub add-requires : goal.add-requires
add-requires c = risen c.self.inside.places c.self.inside.entries c.args.entry.guid c.self.invariant

pub invariant_of-self-in-Ok-add : goal.invariant_of-self-in-Ok-add
invariant_of-self-in-Ok-add c =
    let list = c.self.inside.entries in
    let entry = c.args.entry in
    let n : c.in-Ok.place ≡ length list = c.in-Ok.ensures.1 ∙ c.len-len.ensures in
    let has : HasInstead c.self.inside.places entry.guid (with_number (length list) (list_of c.self.inside.places entry.guid)) c.add.new.self =
    subst (λ k. HasInstead c.self.inside.places entry.guid (with_number k (list_of c.self.inside.places entry.guid)) c.add.new.self) n c.in-Ok-add.ensures.ok in
    let more : c.push.new.self ≡ list ++ entry ∷ [] = c.in-Ok-push.ensures.ok in
    subst (λ (l : List Indexed). AreAt c.add.new.self (has_at l) (length l)) (sym more) (pushed c.self.inside.places c.add.new.self list entry c.self.invariant has)
