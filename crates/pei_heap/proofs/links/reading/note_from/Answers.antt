use Rattle.std.proofs.Common.{Some, None, arith}
use Rattle.pei_heap.proofs.Tellings.{note_head, note_list, note_small, note_stands, note_told}
use Rattle.pei_heap.proofs.links.reading.note_from.Goals as goal

pub tell_entry-requires : goal.tell_entry-requires
tell_entry-requires c =
    let s = c.requires.0 in
    let kind = c.requires.1 in
    let here = c.address_at.ensures s (note_list kind) c.requires.2 (note_head s kind c.args.head c.requires.3) in
    (s, note_list kind, c.args.place, c.requires.2, note_stands s kind c.args.head c.args.place c.address_at.result c.requires.3 here)

pub overflow_cast-result : goal.overflow_cast-result
overflow_cast-result c =
    let s = c.requires.0 in
    let kind = c.requires.1 in
    let h = c.requires.2 in
    let head = c.requires.3 in
    let here = c.address_at.ensures s (note_list kind) h (note_head s kind c.args.head head) in
    let told = c.in-Some.ensures s (note_list kind) c.args.place h (note_stands s kind c.args.head c.args.place c.address_at.result head here) in
    let small = note_small s kind c.args.head c.args.place c.in-Some.told c.named_are_there.ensures h.state head told in
    grind (arith, small)

pub returns-in-Some : goal.returns-in-Some
returns-in-Some c s kind h head =
    let here = c.address_at.ensures s (note_list kind) h (note_head s kind c.args.head head) in
    let told = c.in-Some.ensures s (note_list kind) c.args.place h (note_stands s kind c.args.head c.args.place c.address_at.result head here) in
    note_told s kind c.args.head c.args.place (Some c.in-Some.told) head told

pub returns-in-None : goal.returns-in-None
returns-in-None c s kind h head =
    let here = c.address_at.ensures s (note_list kind) h (note_head s kind c.args.head head) in
    let told = c.in-None.ensures s (note_list kind) c.args.place h (note_stands s kind c.args.head c.args.place c.address_at.result head here) in
    note_told s kind c.args.head c.args.place None head told
