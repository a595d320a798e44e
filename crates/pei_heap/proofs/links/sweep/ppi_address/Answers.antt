use Rattle.std.proofs.Common.{◌≡◌, length, arith, ◌∙◌}
use Rattle.store_laws.specs.Items.{item_of, items}
use Rattle.store_model.specs.declared.store_handle.EntryList.TheVariants.{Ppis}
use Rattle.pei_heap.proofs.{Ends.map_len, Matches.last_from}
use Rattle.pei_heap.proofs.links.sweep.ppi_address.Goals as goal

pub returns-then-place-heads : goal.returns-then-place-heads
returns-then-place-heads c s h =
    let count = h.heads_are.ppis_are in
    let some = c.if-heads-gt0.true in
    let last = c.if-place-heads.true in
    let long : length (items s Ppis) ≡ length s.ppis = map_len (item_of s.base) s.ppis in
    h.heads_are.ppi_ends.last ∙ last_from s.base (items s Ppis) c.args.place (omega (arith, count, some, last, long))
