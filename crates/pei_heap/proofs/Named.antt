-- The first PPI that names a descriptor, and memory where it names another.
use Rattle.std.proofs.Common.{◌≡◌, ◌≤◌, ◌+◌, ◌==◌, ◌||◌, ℕ, zero, suc, Bool, true, false, cond, List, [], ◌∷◌, length, drop, ap, sym, refl, ◌∙◌, arith, subst, map}
use Rattle.std.specs.List.{list_any}
use Rattle.pi_base.specs.Field.{little_bytes}
use Rattle.phys_mem.specs.{Region.replaced, declared.memory.PhysMem.PhysMem}
use Rattle.store_model.specs.{declared.state.Entry.Entry, declared.store_handle.Desc.Desc, declared.store_handle.DescKind.TheVariants.Ppi}
use Rattle.store_model.specs.{declared.store_handle.EntryList.TheVariants.Ppis, StoreState.StoreState}
use Rattle.store_model.specs.{StateFacts.IsDescOf, StateFacts.IsStoreState, HeapImage.heap_image, Service.Descriptor.descriptors}
use Rattle.store_model.specs.Service.Install.{place_of, renamed}
use Rattle.store_laws.specs.{Steps.StepsKeepFacts, Chain.NodesAreInside, Changes.PpisAreRenamed, Heads.EndsAreKept, Heads.PlacesAreKept}
use Rattle.store_laws.specs.{Items.item_of, Items.items, Mapped.layout_of}
use Rattle.pei_heap.specs.{declared.heap.Heap.Heap, HeapMemory.Holds, declared.links.heads.Heads.Heads}
use Rattle.pei_heap.specs.{declared.links.renaming.PpiFound.PpiFound, Linked.IsLinked, Replaced.IsFirstNamed, Replaced.with_renamed}

pub installed_is : (place : ℕ) (xs : List Entry) → list_any (λ (x : Entry). x.descriptor == place) xs ≡ list_any (λ named. named == place) (descriptors xs)
installed_is place [] = refl
installed_is place (x ∷ xs) = ap (λ b. (x.descriptor == place) || b) (installed_is place xs)

pub place_here : (xs rest : List Entry) (x : Entry) (old whole i : ℕ) → xs ≡ x ∷ rest → i + place_of xs old ≡ whole → true ≡ (x.descriptor == old) → i ≡ whole
place_here xs rest x old whole i e f t =
    let none : 0 ≡ place_of xs old = ap (λ b. cond b 0 (1 + place_of rest old)) t ∙ ap (λ l. place_of l old) (sym e) in
    omega (arith, f, none)

pub place_past : (xs rest : List Entry) (x : Entry) (old whole i : ℕ) → xs ≡ x ∷ rest → i + place_of xs old ≡ whole → false ≡ (x.descriptor == old) → i + 1 + place_of rest old ≡ whole
place_past xs rest x old whole i e f t =
    let more : 1 + place_of rest old ≡ place_of xs old = ap (λ b. cond b 0 (1 + place_of rest old)) t ∙ ap (λ l. place_of l old) (sym e) in
    omega (arith, f, more)

-- its node lies in the heap
item_there : (base : ℕ) (xs : List Entry) (i : ℕ) (entry : Entry) (rest : List Entry) → drop i xs ≡ entry ∷ rest → drop i (map (item_of base) xs) ≡ item_of base entry ∷ map (item_of base) rest
item_there base [] zero entry rest e = cc
item_there base [] (suc i) entry rest e = cc
item_there base (x ∷ xs) zero entry rest e = ap (map (item_of base)) e
item_there base (x ∷ xs) (suc i) entry rest e = item_there base xs i entry rest e

pub found_inside : (s : StoreState) (old : Desc) (found : PpiFound) → NodesAreInside → IsStoreState s → IsFirstNamed s old found → found.node + 32 ≤ s.len
found_inside s old found law h is =
    let inside = law s Ppis found.place (item_of s.base is.entry) (map (item_of s.base) is.rest) h (item_there s.base s.ppis found.place is.entry is.rest is.there) in
    let node = is.node_is in
    omega (arith, inside.1, node)

-- as many PPIs
count_on : (b : Bool) (x y : Entry) (xs ys : List Entry) → length xs ≡ length ys → length (cond b (y ∷ ys) (x ∷ xs)) ≡ suc (length ys)
count_on true x y xs ys e = refl
count_on false x y xs ys e = ap suc e

renamed_count : (xs : List Entry) (old new : ℕ) → length (renamed xs old new) ≡ length xs
renamed_count [] old new = refl
renamed_count (x ∷ xs) old new = count_on (x.descriptor == old) x (record x { descriptor = new }) (renamed xs old new) xs (renamed_count xs old new)

-- memory then has its image
pub renamed_linked : (s : StoreState) (old new : Desc) (found : PpiFound) (heap : Heap) (before after : PhysMem) (heads : Heads) (offset address : ℕ) (text : List ℕ)
    → PpisAreRenamed → PlacesAreKept → EndsAreKept → StepsKeepFacts → IsLinked heap before heads s → IsFirstNamed s old found → IsDescOf s Ppi new
    → offset ≡ found.node + 8 → address ≡ heap.span.base + new.offset → text ≡ little_bytes 8 address
    → Holds heap after (layout_of s) (replaced (heap_image s) offset text) → IsLinked heap after heads (with_renamed s old new)
renamed_linked s old new found heap before after heads offset address text law places ends steps h is named at there bytes holds =
    let t = with_renamed s old new in
    let node = is.node_is in
    let base = h.heap_is.image.base in
    let place : offset ≡ is.entry.node + 8 = omega (arith, at, node) in
    let value : address ≡ s.base + new.offset = omega (arith, there, base) in
    let first : drop (place_of s.ppis old.offset) s.ppis ≡ is.entry ∷ is.rest = ap (λ n. drop n s.ppis) (sym is.place_is) ∙ is.there in
    let whole : replaced (heap_image s) offset text ≡ heap_image t =
    ap (λ n. replaced (heap_image s) n text) place ∙ ap (replaced (heap_image s) (is.entry.node + 8)) (bytes ∙ ap (little_bytes 8) value)
    ∙ sym (law s old.offset new.offset is.entry is.rest h.heap_is.state first) in
    let both = ends s.base (items t Ppis) (items s Ppis) (places s old.offset new.offset) in
    let heads_are = h.heads_are in
    record {
      heap_is = record { state = steps.rename s old new h.heap_is.state named; image = subst (λ (x : List ℕ). Holds heap after (layout_of s) x) whole holds };
      heads_are = record {
        ppi_ends = record { first = heads_are.ppi_ends.first ∙ sym both.0; last = heads_are.ppi_ends.last ∙ sym both.1 };
        note_ends = record { first = heads_are.note_ends.first; last = heads_are.note_ends.last };
        later_ends = record { first = heads_are.later_ends.first; last = heads_are.later_ends.last };
        queue_ends = record { first = heads_are.queue_ends.first; last = heads_are.queue_ends.last };
        ppis_are = heads_are.ppis_are ∙ sym (renamed_count s.ppis old.offset new.offset);
        notes_are = heads_are.notes_are;
      };
    }
