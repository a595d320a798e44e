-- The ends of the lists with an entry more.
use Rattle.std.proofs.Common.{◌≡◌, ◌+◌, ◌<◌, ◌^◌, ℕ, suc, List, [], ◌∷◌, ◌++◌, length, ap, sym, refl, ◌∙◌, arith, length-append, map}
use Rattle.store_model.specs.{declared.state.Entry.Entry, declared.store_handle.EntryList.EntryList}
use Rattle.store_model.specs.declared.store_handle.EntryList.TheVariants.{Ppis, Callbacks, Dispatches, Pendings}
use Rattle.store_model.specs.{StoreState.StoreState, StoreState.next_body, StateFacts.IsStoreState, Service.Reading.entry_told}
use Rattle.store_laws.specs.Behind.{EntriesAreTold}
use Rattle.store_laws.specs.Heads.{FirstIsPushed, ItemsArePushed, LastIsPushed, last_address}
use Rattle.store_laws.specs.Items.{Item, first_address, items}
use Rattle.pei_heap.specs.{declared.links.entry.NewEntry.NewEntry, declared.links.heads.Heads.Heads, Linked.AreEnds, Linked.AreHeads}
use Rattle.pei_heap.specs.NewEntry.{first_of, second_of, with_entry, with_last_node}

-- the item of the entry
abbrev pub new_item : EntryList → NewEntry → StoreState → Item
new_item list entry s = record { node = next_body s; descriptor = s.base + entry.descriptor; second = second_of list s.base entry; number = entry.by }

first_pushed : (s : StoreState) (list : EntryList) (item : Item) (head tail : ℕ) (new : List Item) → FirstIsPushed → IsStoreState s → AreEnds s list head tail → new ≡ items s list ++ item ∷ []
    → first_of head (s.base + item.node) ≡ first_address s.base new
first_pushed s list item head tail new law h ends e = ap (λ n. first_of n (s.base + item.node)) ends.first ∙ sym (law s list item h) ∙ ap (first_address s.base) (sym e)

last_pushed : (s : StoreState) (list : EntryList) (item : Item) (new : List Item) → LastIsPushed → new ≡ items s list ++ item ∷ [] → s.base + item.node ≡ last_address s.base new
last_pushed s list item new law e = sym (law s.base (items s list) item) ∙ ap (last_address s.base) (sym e)

one_more : (xs : List Entry) (x : Entry) (n : ℕ) → n ≡ length xs → n + 1 ≡ length (xs ++ x ∷ [])
one_more xs x n e = let sum : length (xs ++ x ∷ []) ≡ length xs + 1 = length-append xs (x ∷ []) in omega (arith, e, sum)

pub still_heads : (list : EntryList) (entry : NewEntry) (s : StoreState) (heads : Heads) → FirstIsPushed → LastIsPushed → ItemsArePushed → IsStoreState s → AreHeads s heads
    → AreHeads (with_entry list entry s) (with_last_node list (s.base + next_body s) heads)
still_heads Ppis entry s heads first last pushed state h =
    let e = pushed.ppi s entry.by (record { offset = entry.descriptor }) in
    record {
      ppi_ends = record { first = first_pushed s Ppis (new_item Ppis entry s) heads.ppi heads.ppi_tail _ first state h.ppi_ends e; last = last_pushed s Ppis (new_item Ppis entry s) _ last e };
      note_ends = record { first = h.note_ends.first; last = h.note_ends.last };
      later_ends = record { first = h.later_ends.first; last = h.later_ends.last };
      queue_ends = record { first = h.queue_ends.first; last = h.queue_ends.last };
      ppis_are = one_more s.ppis _ heads.ppis h.ppis_are;
      notes_are = h.notes_are;
    }
still_heads Callbacks entry s heads first last pushed state h =
    let e = pushed.callback s entry.by (record { offset = entry.descriptor }) in
    record {
      ppi_ends = record { first = h.ppi_ends.first; last = h.ppi_ends.last };
      note_ends = record { first = first_pushed s Callbacks (new_item Callbacks entry s) heads.note heads.note_tail _ first state h.note_ends e; last = last_pushed s Callbacks (new_item Callbacks entry s) _ last e };
      later_ends = record { first = h.later_ends.first; last = h.later_ends.last };
      queue_ends = record { first = h.queue_ends.first; last = h.queue_ends.last };
      ppis_are = h.ppis_are;
      notes_are = one_more s.callbacks _ heads.notes h.notes_are;
    }
still_heads Dispatches entry s heads first last pushed state h =
    let e = pushed.dispatch s entry.by (record { offset = entry.descriptor }) in
    record {
      ppi_ends = record { first = h.ppi_ends.first; last = h.ppi_ends.last };
      note_ends = record { first = h.note_ends.first; last = h.note_ends.last };
      later_ends = record { first = first_pushed s Dispatches (new_item Dispatches entry s) heads.later heads.later_tail _ first state h.later_ends e; last = last_pushed s Dispatches (new_item Dispatches entry s) _ last e };
      queue_ends = record { first = h.queue_ends.first; last = h.queue_ends.last };
      ppis_are = h.ppis_are;
      notes_are = h.notes_are;
    }
still_heads Pendings entry s heads first last pushed state h =
    let e = pushed.pair s entry.by (entry.ppi, entry.descriptor) in
    record {
      ppi_ends = record { first = h.ppi_ends.first; last = h.ppi_ends.last };
      note_ends = record { first = h.note_ends.first; last = h.note_ends.last };
      later_ends = record { first = h.later_ends.first; last = h.later_ends.last };
      queue_ends = record { first = first_pushed s Pendings (new_item Pendings entry s) heads.queue heads.queue_tail _ first state h.queue_ends e; last = last_pushed s Pendings (new_item Pendings entry s) _ last e };
      ppis_are = h.ppis_are;
      notes_are = h.notes_are;
    }

pub map_len : {A B : Type 0} (f : A → B) (xs : List A) → length (map f xs) ≡ length xs
map_len f [] = refl
map_len f (x ∷ xs) = ap suc (map_len f xs)

-- there are fewer entries than a count holds
pub few_entries : (s : StoreState) → EntriesAreTold → IsStoreState s → (length s.ppis < 2 ^ 28) × (length s.callbacks < 2 ^ 28)
few_entries s law h =
    let ppis = law.few s Ppis h in
    let notes = law.few s Callbacks h in
    let a : length (map (entry_told s) s.ppis) ≡ length s.ppis = map_len (entry_told s) s.ppis in
    let b : length (map (entry_told s) s.callbacks) ≡ length s.callbacks = map_len (entry_told s) s.callbacks in
    (omega (arith, ppis, a), omega (arith, notes, b))
