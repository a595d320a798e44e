use Rattle.std.proofs.Common.{◌≡◌, sym, subst, ◌∙◌, length, ◌++◌, ◌∷◌, [], List}
use Rattle.boot_model.specs.declared.driver.ProtocolNote.{ProtocolNote}
use Rattle.guid_lists.specs.Lists.{HasInstead, list_of, with_number}
use Rattle.guid_lists.specs.Places.{AreAt}
use Rattle.dxe_core.specs.Notes.{is_note}
use Rattle.dxe_core.proofs.Noting.{noted, risen}
use Rattle.dxe_core.proofs.notes.Notes.push.Goals as goal

pub add-requires : goal.add-requires
add-requires c = risen c.self.inside.places c.self.inside.list c.args.note.guid c.self.invariant

pub invariant_of-self-in-Ok-add : goal.invariant_of-self-in-Ok-add
invariant_of-self-in-Ok-add c =
    let list = c.self.inside.list in
    let note = c.args.note in
    let n : c.in-Ok.place ≡ length list = c.in-Ok.ensures.1 ∙ c.len-len.ensures in
    let has : HasInstead c.self.inside.places note.guid (with_number (length list) (list_of c.self.inside.places note.guid)) c.add.new.self =
    subst (λ k. HasInstead c.self.inside.places note.guid (with_number k (list_of c.self.inside.places note.guid)) c.add.new.self) n c.in-Ok-add.ensures.ok in
    let more : c.push.new.self ≡ list ++ note ∷ [] = c.in_ok-push.ensures.ok in
    subst (λ (l : List ProtocolNote). AreAt c.add.new.self (is_note l) (length l)) (sym more) (noted c.self.inside.places c.add.new.self list note c.self.invariant has)
