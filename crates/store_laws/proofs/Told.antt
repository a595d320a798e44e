-- What the bytes of a heap tell of its lists.
use Rattle.std.proofs.Common.{◌≡◌, ℕ, ◌+◌, ◌-◌, List, [], ◌∷◌, length, drop, arith, ap, refl, sym, ◌∙◌, Option, map, option_map, unwrap_or}
use Rattle.pi_base.specs.{declared.guid.Guid.Guid, Field.ReadsWhatItSpells, Lists.Each}
use Rattle.store_model.specs.{declared.state.Entry.Entry, declared.state.Pending.Pending, declared.state.Body.Body}
use Rattle.store_model.specs.{declared.state.DescriptorBody.DescriptorBody, declared.store_handle.DescKind.DescKind, StoreState.StoreState}
use Rattle.store_model.specs.declared.store_handle.DescKind.TheVariants.{Ppi, Callback, Dispatch}
use Rattle.store_model.specs.StateFacts.{IsStoreState, IsEntry, IsPending, IsDescriptorAt}
use Rattle.store_model.specs.{HeapImage.heap_image, declared.store_handle.EntryList.EntryList}
use Rattle.store_model.specs.Service.Descriptor.{guid_at, number_at, descriptor_in, no_guid}
use Rattle.store_model.specs.declared.store_handle.EntryList.TheVariants.{Ppis, Callbacks, Dispatches, Pendings}
use Rattle.store_laws.specs.{Descriptors.guid_told, Descriptors.number_told, Walk.chain_from, Walk.addresses, Word.word_in}
use Rattle.store_laws.specs.Items.{Item, item_of, queued_item, items, first_address}
use Rattle.store_laws.specs.Told.{told_by, node_told, pair_told, queue_told, image_told, entry_said}
use Rattle.store_laws.specs.Accessors.{ListsAreTold}
use Rattle.store_laws.proofs.{Facts.images_fill, Chains.chains_are_lists, Short.lists_are_short}
use Rattle.store_laws.proofs.Nodes.{descriptor_is_read, second_is_read, number_is_read, drop_next}
use Rattle.store_laws.proofs.Descriptors.{guids_are_read, numbers_are_read}

-- the descriptor at a place, by the state
guid_is : (s : StoreState) (kind : DescKind) (place : ℕ) → ReadsWhatItSpells → IsStoreState s → IsDescriptorAt s kind place → guid_told s.board.roms (heap_image s) s.base place ≡ guid_at s place
guid_is s kind place law h d =
    guids_are_read law s place d.0 h d.1 ∙ sym (ap (λ (x : Option Body). unwrap_or (option_map (λ (y : DescriptorBody). y.guid) (descriptor_in x)) no_guid) d.1)

number_is : (s : StoreState) (kind : DescKind) (place : ℕ) → ReadsWhatItSpells → IsStoreState s → IsDescriptorAt s kind place → number_told (heap_image s) place ≡ number_at s place
number_is s kind place law h d =
    numbers_are_read law s place d.0 h d.1 ∙ sym (ap (λ (x : Option Body). unwrap_or (option_map (λ (y : DescriptorBody). y.number) (descriptor_in x)) 0) d.1)

-- the node of an entry
node_is : (s : StoreState) (list : EntryList) (kind : DescKind) (i : ℕ) (entry : Entry) (rest : List Item) → ReadsWhatItSpells → IsStoreState s → drop i (items s list) ≡ item_of s.base entry ∷ rest → IsEntry s kind entry
    → node_told s.board.roms (heap_image s) s.base (s.base + entry.node) ≡ entry_said s entry
node_is s list kind i entry rest law h e is =
    let image = heap_image s in
    let roms = s.board.roms in
    let here : s.base + entry.node - s.base ≡ entry.node = omega arith in
    let word : word_in image (s.base + entry.node - s.base + 8) ≡ s.base + entry.descriptor = ap (λ n. word_in image (n + 8)) here ∙ descriptor_is_read law s list i (item_of s.base entry) rest h e in
    let place : word_in image (s.base + entry.node - s.base + 8) - s.base ≡ entry.descriptor = omega (arith, word) in
    let by : word_in image (s.base + entry.node - s.base + 24) ≡ entry.by = ap (λ n. word_in image (n + 24)) here ∙ number_is_read law s list i (item_of s.base entry) rest h e (let fits = is.2 in omega (arith, fits)) in
    ap (λ n. told_by roms image s.base n (word_in image (s.base + entry.node - s.base + 24))) place ∙ ap (told_by roms image s.base entry.descriptor) by
    ∙ ap (λ (g : Guid). record { place = entry.descriptor; guid = g; number = number_told image entry.descriptor; by = entry.by }) (guid_is s kind entry.descriptor law h is.1)
    ∙ ap (λ (n : ℕ). record { place = entry.descriptor; guid = guid_at s entry.descriptor; number = n; by = entry.by }) (number_is s kind entry.descriptor law h is.1)

entries_on : (s : StoreState) (list : EntryList) (kind : DescKind) (i : ℕ) (left : List Entry) → ReadsWhatItSpells → IsStoreState s → drop i (items s list) ≡ map (item_of s.base) left → Each (IsEntry s kind) left
    → map (node_told s.board.roms (heap_image s) s.base) (addresses s.base (map (item_of s.base) left)) ≡ map (entry_said s) left
entries_on s list kind i [] law h e is = refl
entries_on s list kind i (entry ∷ left) law h e is =
    ap (λ x. x ∷ map (node_told s.board.roms (heap_image s) s.base) (addresses s.base (map (item_of s.base) left))) (node_is s list kind i entry (map (item_of s.base) left) law h e is.0)
    ∙ ap (λ xs. entry_said s entry ∷ xs) (entries_on s list kind (i + 1) left law h (drop_next (items s list) i (item_of s.base entry) (map (item_of s.base) left) e) is.1)

chain_is : (s : StoreState) (list : EntryList) → ReadsWhatItSpells → IsStoreState s → chain_from (length (heap_image s)) (heap_image s) s.base (first_address s.base (items s list)) ≡ addresses s.base (items s list)
chain_is s list law h =
    let short = lists_are_short s list h in
    let full = images_fill s h in
    chains_are_lists law s list (length (heap_image s)) h (omega (arith, short, full))

pub ppis_told : (s : StoreState) → ReadsWhatItSpells → IsStoreState s → image_told s Ppis ≡ map (entry_said s) s.ppis
ppis_told s law h = ap (map (node_told s.board.roms (heap_image s) s.base)) (chain_is s Ppis law h) ∙ entries_on s Ppis Ppi 0 s.ppis law h refl h.ppis

pub callbacks_told : (s : StoreState) → ReadsWhatItSpells → IsStoreState s → image_told s Callbacks ≡ map (entry_said s) s.callbacks
callbacks_told s law h = ap (map (node_told s.board.roms (heap_image s) s.base)) (chain_is s Callbacks law h) ∙ entries_on s Callbacks Callback 0 s.callbacks law h refl h.callbacks

pub dispatches_told : (s : StoreState) → ReadsWhatItSpells → IsStoreState s → image_told s Dispatches ≡ map (entry_said s) s.dispatches
dispatches_told s law h = ap (map (node_told s.board.roms (heap_image s) s.base)) (chain_is s Dispatches law h) ∙ entries_on s Dispatches Dispatch 0 s.dispatches law h refl h.dispatches

pub lists_are_told : ReadsWhatItSpells → ListsAreTold
lists_are_told law s h = (ppis_told s law h, callbacks_told s law h, dispatches_told s law h)

-- a queued pair
pair_is : (s : StoreState) (i : ℕ) (pending : Pending) (rest : List Item) → ReadsWhatItSpells → IsStoreState s → drop i (items s Pendings) ≡ queued_item s.base pending ∷ rest → IsPending s pending
    → pair_told s.board.roms (heap_image s) s.base (s.base + pending.node) ≡ (guid_at s pending.ppi, number_at s pending.descriptor)
pair_is s i pending rest law h e is =
    let image = heap_image s in
    let here : s.base + pending.node - s.base ≡ pending.node = omega arith in
    let first : word_in image (s.base + pending.node - s.base + 8) ≡ s.base + pending.descriptor = ap (λ n. word_in image (n + 8)) here ∙ descriptor_is_read law s Pendings i (queued_item s.base pending) rest h e in
    let second : word_in image (s.base + pending.node - s.base + 16) ≡ s.base + pending.ppi = ap (λ n. word_in image (n + 16)) here ∙ second_is_read law s Pendings i (queued_item s.base pending) rest h e in
    let note : word_in image (s.base + pending.node - s.base + 8) - s.base ≡ pending.descriptor = omega (arith, first) in
    let ppi : word_in image (s.base + pending.node - s.base + 16) - s.base ≡ pending.ppi = omega (arith, second) in
    let guid : guid_told s.board.roms image s.base (word_in image (s.base + pending.node - s.base + 16) - s.base) ≡ guid_at s pending.ppi = ap (guid_told s.board.roms image s.base) ppi ∙ guid_is s Ppi pending.ppi law h is.2 in
    let number : number_told image (word_in image (s.base + pending.node - s.base + 8) - s.base) ≡ number_at s pending.descriptor = ap (number_told image) note ∙ number_is s Dispatch pending.descriptor law h is.1 in
    ap (λ (g : Guid). (g, number_told image (word_in image (s.base + pending.node - s.base + 8) - s.base))) guid ∙ ap (λ (n : ℕ). (guid_at s pending.ppi, n)) number

pairs_on : (s : StoreState) (i : ℕ) (left : List Pending) → ReadsWhatItSpells → IsStoreState s → drop i (items s Pendings) ≡ map (queued_item s.base) left → Each (IsPending s) left
    → map (pair_told s.board.roms (heap_image s) s.base) (addresses s.base (map (queued_item s.base) left)) ≡ map (λ (pending : Pending). (guid_at s pending.ppi, number_at s pending.descriptor)) left
pairs_on s i [] law h e is = refl
pairs_on s i (pending ∷ left) law h e is =
    ap (λ x. x ∷ map (pair_told s.board.roms (heap_image s) s.base) (addresses s.base (map (queued_item s.base) left))) (pair_is s i pending (map (queued_item s.base) left) law h e is.0)
    ∙ ap (λ xs. (guid_at s pending.ppi, number_at s pending.descriptor) ∷ xs) (pairs_on s (i + 1) left law h (drop_next (items s Pendings) i (queued_item s.base pending) (map (queued_item s.base) left) e) is.1)

pub queue_is : (s : StoreState) → ReadsWhatItSpells → IsStoreState s
    → queue_told s.board.roms (heap_image s) s.base (first_address s.base (items s Pendings)) ≡ map (λ (pending : Pending). (guid_at s pending.ppi, number_at s pending.descriptor)) s.pendings
queue_is s law h = ap (map (pair_told s.board.roms (heap_image s) s.base)) (chain_is s Pendings law h) ∙ pairs_on s 0 s.pendings law h refl h.pendings
