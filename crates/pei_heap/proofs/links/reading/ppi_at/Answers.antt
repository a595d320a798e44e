use Rattle.std.proofs.Common.{Some, None}
use Rattle.store_model.specs.declared.store_handle.EntryList.TheVariants.{Ppis}
use Rattle.pei_heap.proofs.Tellings.{ppi_told}
use Rattle.pei_heap.proofs.links.reading.ppi_at.Goals as goal

pub returns-in-Some : goal.returns-in-Some
returns-in-Some c s h =
    let here = c.address_at.ensures s Ppis h.heap_is h.heads_are.ppi_ends.first in
    ppi_told s c.args.place (Some c.in-Some.told) (c.in-Some.ensures s Ppis c.args.place h.heap_is (record { entries = tt; here = here }))

pub returns-in-None : goal.returns-in-None
returns-in-None c s h =
    let here = c.address_at.ensures s Ppis h.heap_is h.heads_are.ppi_ends.first in
    ppi_told s c.args.place None (c.in-None.ensures s Ppis c.args.place h.heap_is (record { entries = tt; here = here }))
