-- Rows of a list, by the entries' own words.
use Rattle.std.proofs.Common.{◌≡◌, ℕ, Bool, true, false, cond, ◌||◌, List, [], ◌∷◌, ap, refl, sym, ◌∙◌, Option, Some, None, filter, map, option_map, slice_get}
use Rattle.std.specs.List.{list_any}
use Rattle.std.proofs.{lemmas.Bool.Decides.same_from_decides, lemmas.Option.slice_get-map, lemmas.Slice.Eq.bytes_eq-Decides}
use Rattle.pi_base.specs.{declared.guid.Guid.Guid, Guids.same_guid}
use Rattle.mem_store.specs.{declared.guid_index.index.Indexed.Indexed, Entries.entries_of, Entries.has_guid}
use Rattle.store_model.specs.{declared.state.Entry.Entry, StoreState.StoreState, Service.Descriptor.descriptors, Service.Descriptor.guid_at}
use Rattle.store_model.specs.{Service.Install.has_ppi, Service.Install.row_of, Service.Reading.nth_ppi}
use Rattle.mem_store.specs.Rows.{pair_with, row_at, rows_of, told_row}

any_rows : (s : StoreState) (guid : Guid) (entries : List Entry)
    → list_any (has_guid guid) (rows_of s entries) ≡ list_any (λ entry. same_guid (guid_at s entry.descriptor) guid) entries
any_rows s guid [] = refl
any_rows s guid (e ∷ es) = ap (λ b. same_guid (guid_at s e.descriptor) guid || b) (any_rows s guid es)

pub has_is : (s : StoreState) (guid : Guid) → list_any (has_guid guid) (rows_of s s.ppis) ≡ has_ppi s guid
has_is s guid = any_rows s guid s.ppis

mapped : {A B : Type 0} (f : A → B) (b : Bool) (x : A) (xs : List A) → cond b (f x ∷ map f xs) (map f xs) ≡ map f (cond b (x ∷ xs) xs)
mapped f true x xs = refl
mapped f false x xs = refl

-- the rows that have a GUID are those of the entries that have it
filtered : (s : StoreState) (guid : Guid) (entries : List Entry)
    → entries_of (rows_of s entries) guid ≡ map (λ entry. row_at s entry.descriptor) (filter (λ entry. same_guid (guid_at s entry.descriptor) guid) entries)
filtered s guid [] = refl
filtered s guid (e ∷ es) =
    ap (λ l. cond (same_guid (guid_at s e.descriptor) guid) (row_at s e.descriptor ∷ l) l) (filtered s guid es)
    ∙ mapped (λ entry. row_at s entry.descriptor) (same_guid (guid_at s e.descriptor) guid) e (filter (λ entry. same_guid (guid_at s entry.descriptor) guid) es)

-- what is told of a row is what is told of its entry
told_twice : (s : StoreState) (o : Option Entry) → option_map (told_row s) (option_map (λ (entry : Entry). row_at s entry.descriptor) o)
    ≡ option_map (λ (entry : Entry). told_row s (row_at s entry.descriptor)) o
told_twice s None = refl
told_twice s (Some e) = refl

pub nth_is : (s : StoreState) (guid : Guid) (n : ℕ)
    → option_map (told_row s) (slice_get (entries_of (rows_of s s.ppis) guid) n) ≡ nth_ppi s guid n
nth_is s guid n =
    let entries : List Entry = filter (λ entry. same_guid (guid_at s entry.descriptor) guid) s.ppis in
    ap (λ l. option_map (told_row s) (slice_get l n)) (filtered s guid s.ppis)
    ∙ ap (option_map (told_row s)) (slice_get-map (λ entry. row_at s entry.descriptor) entries n)
    ∙ told_twice s (slice_get entries n)

turned : (a b : Guid) → same_guid a b ≡ same_guid b a
turned a b =
    let there = bytes_eq-Decides a.0 b.0 in
    let back = bytes_eq-Decides b.0 a.0 in
    same_from_decides (same_guid a b) (same_guid b a) there (λ t. sym (back.0 t), λ e. back.1 (sym e))

-- a PPI's place with another
abbrev with_place : ℕ → ℕ → ℕ × ℕ
with_place ppi note = (ppi, note)

paired : (b : Bool) (ppi : ℕ) (row : Indexed) (rows : List Indexed) (notes : List ℕ) → map (pair_with ppi) rows ≡ map (with_place ppi) notes
    → map (pair_with ppi) (cond b (row ∷ rows) rows) ≡ map (with_place ppi) (cond b (row.at ∷ notes) notes)
paired true ppi row rows notes e = ap (λ l. pair_with ppi row ∷ l) e
paired false ppi row rows notes e = e

pairs_on : (s : StoreState) (ppi : ℕ) (entries : List Entry)
    → map (pair_with ppi) (entries_of (rows_of s entries) (guid_at s ppi)) ≡ row_of s ppi (descriptors entries)
pairs_on s ppi [] = refl
pairs_on s ppi (e ∷ es) =
    let notes : List ℕ = filter (λ note. same_guid (guid_at s ppi) (guid_at s note)) (descriptors es) in
    paired (same_guid (guid_at s e.descriptor) (guid_at s ppi)) ppi (row_at s e.descriptor) (entries_of (rows_of s es) (guid_at s ppi)) notes (pairs_on s ppi es)
    ∙ ap (λ b. map (with_place ppi) (cond b (e.descriptor ∷ notes) notes)) (turned (guid_at s e.descriptor) (guid_at s ppi))

pub pairs_are : (s : StoreState) (ppi : ℕ)
    → map (pair_with ppi) (entries_of (rows_of s s.dispatches) (guid_at s ppi)) ≡ row_of s ppi (descriptors s.dispatches)
pairs_are s ppi = pairs_on s ppi s.dispatches
