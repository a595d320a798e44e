use Rattle.std.proofs.Common.{Some, ap, sym, ◌∙◌, option_map}
use Rattle.store_model.specs.Service.Reading.{entry_told}
use Rattle.pei_heap.specs.Walk.{entries_in, kind_in}
use Rattle.pei_heap.proofs.{Nth.get_next, Tellings.got_none, Tellings.told_is, Walking.desc_of}
use Rattle.pei_heap.proofs.links.reading.tell_entry.Goals as goal

pub returns-in-None : goal.returns-in-None
returns-in-None c s list place h stands = ap (option_map (entry_told s)) (sym (got_none (entries_in s list) place (c.in-None.ensures s list place h stands)))

pub returns : goal.returns
returns c s list place h stands =
    let met = c.in-Some.ensures s list place h stands in
    let entry = c.in-Some.met.entry in
    let read = c.read_descriptor-told.ensures s h (desc_of s (kind_in list) entry.descriptor met.named) in
    ap Some (told_is s entry c.read_descriptor-told.result read) ∙ ap (option_map (entry_told s)) (sym (get_next (entries_in s list) place entry _ met.rest))
