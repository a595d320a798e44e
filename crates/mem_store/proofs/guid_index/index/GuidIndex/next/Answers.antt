use Rattle.std.proofs.Common.{ap, sym, subst, ◌∙◌, arith, length, List}
use Rattle.guid_lists.specs.Places.{IsFirstFrom}
use Rattle.guid_lists.proofs.Placing.{found_in, first_is}
use Rattle.mem_store.specs.{declared.guid_index.index.Indexed.Indexed, Entries.has_at}
use Rattle.mem_store.proofs.Having.{has_past, risen}
use Rattle.mem_store.proofs.guid_index.index.GuidIndex.next.Goals as goal

pub next-requires : goal.next-requires
next-requires c = risen c.self.inside.places c.self.inside.entries c.args.guid.now c.self.invariant

pub returns : goal.returns
returns c =
    let list = c.self.inside.entries in
    let guid = c.args.guid.now in
    let from = c.args.from in
    let found = c.next.ensures ∙ ap (λ l. found_in l from) (c.self.invariant guid) in
    let first = subst (λ r. IsFirstFrom (has_at list guid) 0 from r) (sym found) (first_is (has_at list guid) 0 (length list) from (λ k low. has_past list guid k (omega (arith, low)))) in
    subst (λ (l : List Indexed). IsFirstFrom (has_at l guid) 0 from c.next.result) c.self.view_is first
