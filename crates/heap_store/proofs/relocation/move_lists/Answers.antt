use Rattle.store_model.specs.declared.store_handle.EntryList.TheVariants.{Ppis, Callbacks, Dispatches, Pendings}
use Rattle.heap_store.specs.{Half.with_links, Half.none_done, Linked.links_of}
use Rattle.heap_store.proofs.HeadMoves.{head_at}
use Rattle.heap_store.proofs.relocation.move_lists.Goals as goal

pub move_chain-requires : goal.move_chain-requires
move_chain-requires c =
    let r = c.requires.lists in
    record { list = (r.0, r.1, none_done, Ppis, r.2, r.4, head_at r.0 r.1 Ppis _ _ r.3.ppi_ends) }

pub move_chain-requires-2 : goal.move_chain-requires-2
move_chain-requires-2 c =
    let r = c.requires.lists in
    let s = r.0 in
    let to = r.1 in
    let first = c.move_chain.ensures s to none_done Ppis r.2 r.4 (head_at s to Ppis _ _ r.3.ppi_ends) in
    record { list = (s, to, with_links none_done (links_of s Ppis), Callbacks, r.2, first, head_at s to Callbacks _ _ r.3.note_ends) }

pub move_chain-requires-3 : goal.move_chain-requires-3
move_chain-requires-3 c =
    let r = c.requires.lists in
    let s = r.0 in
    let to = r.1 in
    let p = with_links none_done (links_of s Ppis) in
    let first = c.move_chain.ensures s to none_done Ppis r.2 r.4 (head_at s to Ppis _ _ r.3.ppi_ends) in
    let second = c.move_chain-2.ensures s to p Callbacks r.2 first (head_at s to Callbacks _ _ r.3.note_ends) in
    record { list = (s, to, with_links p (links_of s Callbacks), Dispatches, r.2, second, head_at s to Dispatches _ _ r.3.later_ends) }

pub move_chain-requires-4 : goal.move_chain-requires-4
move_chain-requires-4 c =
    let r = c.requires.lists in
    let s = r.0 in
    let to = r.1 in
    let p = with_links none_done (links_of s Ppis) in
    let n = with_links p (links_of s Callbacks) in
    let first = c.move_chain.ensures s to none_done Ppis r.2 r.4 (head_at s to Ppis _ _ r.3.ppi_ends) in
    let second = c.move_chain-2.ensures s to p Callbacks r.2 first (head_at s to Callbacks _ _ r.3.note_ends) in
    let third = c.move_chain-3.ensures s to n Dispatches r.2 second (head_at s to Dispatches _ _ r.3.later_ends) in
    record { list = (s, to, with_links n (links_of s Dispatches), Pendings, r.2, third, head_at s to Pendings _ _ r.3.queue_ends) }

pub returns : goal.returns
returns c s to ready heads has =
    let p = with_links none_done (links_of s Ppis) in
    let n = with_links p (links_of s Callbacks) in
    let d = with_links n (links_of s Dispatches) in
    let first = c.move_chain.ensures s to none_done Ppis ready has (head_at s to Ppis _ _ heads.ppi_ends) in
    let second = c.move_chain-2.ensures s to p Callbacks ready first (head_at s to Callbacks _ _ heads.note_ends) in
    let third = c.move_chain-3.ensures s to n Dispatches ready second (head_at s to Dispatches _ _ heads.later_ends) in
    c.move_chain-4.ensures s to d Pendings ready third (head_at s to Pendings _ _ heads.queue_ends)
