-- Calls that make no pair.
use Rattle.std.proofs.Common.{◌≡◌, ℕ, ◌+◌, ◌<◌, ◌≤◌, Bool, true, false, not, cond, ◌||◌, List, [], ◌∷◌, ◌++◌, length, drop, get_or, ap, refl, sym, ◌∙◌, filter, flat_map, map}
use Rattle.std.specs.List.{list_any}
use Rattle.pi_base.specs.declared.guid.Guid.{Guid}
use Rattle.mem_store.specs.{declared.guid_index.index.Indexed.Indexed, Entries.has_guid, Answering.RowsAnswer, declared.index.Index.Index}
use Rattle.store_model.specs.{declared.store_handle.Desc.Desc, StoreState.StoreState, Service.Install.install_pairs, Service.Install.row_of}
use Rattle.store_model.specs.Service.Descriptor.{descriptors, guid_at, is_callback, kind_at}
use Rattle.store_model.specs.Service.Notify.{new_dispatches, notify_pairs}
use Rattle.mem_store.specs.Rows.{pair_with, row_at, rows_of}
use Rattle.mem_store.specs.Indexed.{all_rows, held}
use Rattle.mem_store.proofs.Listed.{drop_all, drop_on}

none_on : (f : Indexed → Bool) (b : Bool) (x : Indexed) (xs : List Indexed) → (list_any f xs ≡ false → filter f xs ≡ []) → (b || list_any f xs) ≡ false
    → cond b (x ∷ filter f xs) (filter f xs) ≡ []
none_on f true x xs more none = absurd (let no : true ≡ false = none in cc)
none_on f false x xs more none = more none

none_pass : (f : Indexed → Bool) (xs : List Indexed) → list_any f xs ≡ false → filter f xs ≡ []
none_pass f [] none = refl
none_pass f (x ∷ xs) none = none_on f (f x) x xs (none_pass f xs) none

-- a PPI whose GUID no dispatch notification has
row_alone : RowsAnswer → (index : Index) (s : StoreState) (ppi : ℕ) (row : Indexed) → held index ≡ all_rows s → row ≡ row_at s ppi
    → list_any (has_guid row.guid) index.dispatches ≡ false → row_of s ppi (descriptors s.dispatches) ≡ []
row_alone answer index s ppi row says is none =
    let here : list_any (has_guid (guid_at s ppi)) (rows_of s s.dispatches) ≡ false =
    ap (λ (guid : Guid). list_any (has_guid guid) (rows_of s s.dispatches)) (sym (ap (λ r. r.guid) is)) ∙ ap (λ r. list_any (has_guid row.guid) r.dispatches) (sym says) ∙ none in
    sym (answer.pairs s ppi) ∙ ap (map (pair_with ppi)) (none_pass (has_guid (guid_at s ppi)) (rows_of s s.dispatches) here)

-- the pairs of PPIs with all dispatch notifications
abbrev pub pairs_in : StoreState → List Desc → List (ℕ × ℕ)
pairs_in s list = install_pairs s list

pub alone_more : RowsAnswer → (index : Index) (s : StoreState) (list : List Desc) (i : ℕ) (d : Desc) (row : Indexed) → i < length list → held index ≡ all_rows s
    → row ≡ row_at s (get_or list i d).offset → list_any (has_guid row.guid) index.dispatches ≡ false → pairs_in s (drop (i + 1) list) ≡ pairs_in s (drop i list)
alone_more answer index s list i d row le says is none =
    let here : Desc = get_or list i d in
    let rest : List Desc = drop (i + 1) list in
    sym (ap (λ l. pairs_in s l) (drop_on list i d le) ∙ ap (λ l. l ++ pairs_in s rest) (row_alone answer index s here.offset row says is none))

pub alone_end : (s : StoreState) (list : List Desc) (i : ℕ) → length list ≤ i → pairs_in s (drop i list) ≡ pairs_in s list → install_pairs s list ≡ []
alone_end s list i le is = sym is ∙ ap (λ l. pairs_in s l) (drop_all list i le)

-- callbacks have no pairs
no_rows : (s : StoreState) (ppis : List ℕ) → flat_map (λ ppi. row_of s ppi []) ppis ≡ []
no_rows s [] = refl
no_rows s (ppi ∷ ppis) = no_rows s ppis

pub news_more : (s : StoreState) (list : List Desc) (i : ℕ) (d : Desc) → i < length list → is_callback (kind_at s (get_or list i d).offset) ≡ true
    → new_dispatches s (drop (i + 1) list) ≡ new_dispatches s (drop i list)
news_more s list i d le is =
    let here : Desc = get_or list i d in
    let rest : List ℕ = new_dispatches s (drop (i + 1) list) in
    sym (ap (λ l. new_dispatches s l) (drop_on list i d le) ∙ ap (λ b. cond (not b) (here.offset ∷ rest) rest) is)

pub news_end : (s : StoreState) (list : List Desc) (i : ℕ) → length list ≤ i → new_dispatches s (drop i list) ≡ new_dispatches s list → notify_pairs s list ≡ []
news_end s list i le is =
    ap (λ notes. flat_map (λ ppi. row_of s ppi notes) (descriptors s.ppis)) (sym is ∙ ap (λ l. new_dispatches s l) (drop_all list i le)) ∙ no_rows s (descriptors s.ppis)
