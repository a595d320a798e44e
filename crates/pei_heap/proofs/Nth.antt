-- The node in a place of a list, by a walk.
use Rattle.std.proofs.Common.{◌≡◌, ◌≢◌, ℕ, zero, suc, ◌+◌, ◌-◌, ◌≤◌, List, [], ◌∷◌, length, drop, arith, ap, refl, sym, ◌∙◌, Some, None, option_map, slice_get}
use Rattle.store_model.specs.{StoreState.StoreState, HeapImage.heap_image, declared.store_handle.EntryList.EntryList}
use Rattle.store_laws.specs.Items.{Item, items, first_address}
use Rattle.store_laws.specs.{Chain.IsHeaded, Chain.NextIsRead, Word.word_in}
use Rattle.store_laws.proofs.{Nodes.node_place, Nodes.drop_next, Facts.images_fill, Facts.has_room}

pub get_next : {A : Type 0} (xs : List A) (i : ℕ) (x : A) (rest : List A) → drop i xs ≡ x ∷ rest → slice_get xs i ≡ Some x
get_next [] zero x rest e = cc
get_next [] (suc i) x rest e = cc
get_next (y ∷ ys) zero x rest e = cc
get_next (y ∷ ys) (suc i) x rest e = get_next ys i x rest e

pub get_past : {A : Type 0} (xs : List A) (i j : ℕ) → drop i xs ≡ [] → i ≤ j → slice_get xs j ≡ None
get_past [] i zero e le = refl
get_past [] i (suc j) e le = refl
get_past (y ∷ ys) zero j e le = cc
get_past (y ∷ ys) (suc i) zero e le = absurd (omega (arith, le))
get_past (y ∷ ys) (suc i) (suc j) e le = get_past ys i j e (omega (arith, le))

-- an address that is not 0 is that of a node, and the next node is behind it
data Here (s : StoreState) (list : EntryList) (i at : ℕ) : Type 0 where
  at_node : (item : Item) (rest : List Item) → drop i (items s list) ≡ item ∷ rest → at ≡ s.base + item.node → Here s list i at
  at_end : drop i (items s list) ≡ [] → at ≡ 0 → Here s list i at

here_by : (s : StoreState) (list : EntryList) (i at : ℕ) (left : List Item) → drop i (items s list) ≡ left → at ≡ first_address s.base left → Here s list i at
here_by s list i at [] e f = at_end e f
here_by s list i at (item ∷ rest) e f = at_node item rest e f

here : (s : StoreState) (list : EntryList) (i at : ℕ) → at ≡ first_address s.base (drop i (items s list)) → Here s list i at
here s list i at f = here_by s list i at (drop i (items s list)) refl f

none_on : (s : StoreState) (list : EntryList) (heap : List ℕ) (base head i at : ℕ) → IsHeaded s list heap base head → at ≡ 0 → Here s list i at → drop i (items s list) ≡ []
none_on s list heap base head i at h z (at_node item rest e f) = let le = node_place s list i item rest h.state e in absurd (omega (arith, le.0, f, z))
none_on s list heap base head i at h z (at_end e f) = e

pub none_left : (s : StoreState) (list : EntryList) (heap : List ℕ) (base head i j at : ℕ) → IsHeaded s list heap base head → at ≡ first_address s.base (drop i (items s list)) → at ≡ 0 → i ≤ j
    → None ≡ option_map (λ (item : Item). s.base + item.node) (slice_get (items s list) j)
none_left s list heap base head i j at h f z le =
    ap (option_map (λ (item : Item). s.base + item.node)) (sym (get_past (items s list) i j (none_on s list heap base head i at h z (here s list i at f)) le))

found_on : (s : StoreState) (list : EntryList) (i at : ℕ) → at ≢ 0 → Here s list i at → Some at ≡ option_map (λ (item : Item). s.base + item.node) (slice_get (items s list) i)
found_on s list i at z (at_node item rest e f) = ap Some f ∙ ap (option_map (λ (x : Item). s.base + x.node)) (sym (get_next (items s list) i item rest e))
found_on s list i at z (at_end e f) = absurd (z f)

pub found : (s : StoreState) (list : EntryList) (i at : ℕ) → at ≢ 0 → at ≡ first_address s.base (drop i (items s list)) → Some at ≡ option_map (λ (item : Item). s.base + item.node) (slice_get (items s list) i)
found s list i at z f = found_on s list i at z (here s list i at f)

-- the word there lies in the heap
within_on : (s : StoreState) (list : EntryList) (heap : List ℕ) (base head i at : ℕ) → IsHeaded s list heap base head → at ≢ 0 → Here s list i at → (base ≤ at) × (at - base + 8 ≤ length heap)
within_on s list heap base head i at h z (at_node item rest e f) =
    let le = node_place s list i item rest h.state e in
    let size : length heap ≡ s.len = ap length h.image ∙ images_fill s h.state in
    let room = has_room s h.state in
    let start = h.start in
    (omega (arith, f, start), omega (arith, f, start, le.1, size, room))
within_on s list heap base head i at h z (at_end e f) = absurd (z f)

pub within : (s : StoreState) (list : EntryList) (heap : List ℕ) (base head i at : ℕ) → IsHeaded s list heap base head → at ≢ 0 → at ≡ first_address s.base (drop i (items s list)) → (base ≤ at) × (at - base + 8 ≤ length heap)
within s list heap base head i at h z f = within_on s list heap base head i at h z (here s list i at f)

next_on : (s : StoreState) (list : EntryList) (heap : List ℕ) (base head i at : ℕ) → NextIsRead → IsHeaded s list heap base head → at ≢ 0 → Here s list i at → word_in heap (at - base) ≡ first_address s.base (drop (i + 1) (items s list))
next_on s list heap base head i at law h z (at_node item rest e f) =
    let start = h.start in
    let there : at - base ≡ item.node = omega (arith, f, start) in
    ap (λ x. word_in x (at - base)) h.image ∙ ap (word_in (heap_image s)) there ∙ law s list i item rest h.state e ∙ ap (first_address s.base) (sym (drop_next (items s list) i item rest e))
next_on s list heap base head i at law h z (at_end e f) = absurd (z f)

pub next : (s : StoreState) (list : EntryList) (heap : List ℕ) (base head i j at word : ℕ) → NextIsRead → IsHeaded s list heap base head → at ≢ 0 → at ≡ first_address s.base (drop i (items s list)) → word ≡ word_in heap (at - base) → j ≡ i + 1
    → word ≡ first_address s.base (drop j (items s list))
next s list heap base head i j at word law h z f is e = is ∙ next_on s list heap base head i at law h z (here s list i at f) ∙ ap (λ n. first_address s.base (drop n (items s list))) (sym e)
