use Rattle.std.proofs.Common.{ap, sym, subst, ◌∙◌, arith, length, List}
use Rattle.boot_model.specs.declared.driver.ProtocolNote.{ProtocolNote}
use Rattle.guid_lists.specs.Places.{IsFirstFrom}
use Rattle.guid_lists.proofs.Placing.{found_in, first_is}
use Rattle.dxe_core.specs.Notes.{is_note}
use Rattle.dxe_core.proofs.Noting.{past, risen}
use Rattle.dxe_core.proofs.notes.Notes.next.Goals as goal

pub next-requires : goal.next-requires
next-requires c = risen c.self.inside.places c.self.inside.list c.args.guid.now c.self.invariant

pub returns : goal.returns
returns c =
    let list = c.self.inside.list in
    let guid = c.args.guid.now in
    let from = c.args.from in
    let found = c.next.ensures ∙ ap (λ l. found_in l from) (c.self.invariant guid) in
    let first = subst (λ r. IsFirstFrom (is_note list guid) 0 from r) (sym found) (first_is (is_note list guid) 0 (length list) from (λ k low. past list guid k (omega (arith, low)))) in
    subst (λ (l : List ProtocolNote). IsFirstFrom (is_note l guid) 0 from c.next.result) (cc) first
