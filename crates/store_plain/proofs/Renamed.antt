-- The first entry that names a descriptor is the one in its place.
use Rattle.std.proofs.Common.{◌≡◌, ℕ, suc, ◌+◌, ◌<◌, Bool, true, false, cond, List, [], ◌∷◌, length, arith, ap, refl, ◌==◌, sym, ◌∙◌, subst, slice_set, slice_index_or}
use Rattle.store_model.specs.{declared.state.Entry.Entry, Service.Install.renamed, Service.Install.place_of}

set_first : (b : Bool) (entry : Entry) (entries : List Entry) (old new : ℕ) (d : Entry)
    → (cond b 0 (1 + place_of entries old)) < suc (length entries)
    → (place_of entries old < length entries → renamed entries old new ≡ slice_set entries (place_of entries old) (record (slice_index_or entries (place_of entries old) d) { descriptor = new }))
    → cond b (record entry { descriptor = new } ∷ entries) (entry ∷ renamed entries old new)
    ≡ slice_set (entry ∷ entries) (cond b 0 (1 + place_of entries old)) (record (slice_index_or (entry ∷ entries) (cond b 0 (1 + place_of entries old)) d) { descriptor = new })
set_first true entry entries old new d le rest = refl
set_first false entry entries old new d le rest = let next : 1 + place_of entries old ≡ suc (place_of entries old) = omega arith in rw next (ap (λ xs. entry ∷ xs) (rest (omega (arith, le))))

pub renamed_is : (entries : List Entry) (old new : ℕ) (d : Entry) → place_of entries old < length entries
    → renamed entries old new ≡ slice_set entries (place_of entries old) (record (slice_index_or entries (place_of entries old) d) { descriptor = new })
renamed_is [] old new d le = refl
renamed_is (entry ∷ entries) old new d le = set_first (entry.descriptor == old) entry entries old new d le (renamed_is entries old new d)

pub renamed_to : (entries : List Entry) (place old new : ℕ) (found : Entry) → place ≡ place_of entries old → place < length entries → found ≡ slice_index_or entries place found
    → slice_set entries place (record found { descriptor = new }) ≡ renamed entries old new
renamed_to entries place old new found e le is =
    let there : place_of entries old < length entries = subst (λ n. n < length entries) e le in
    ap (λ (x : Entry). slice_set entries place (record x { descriptor = new })) is
    ∙ ap (λ n. slice_set entries n (record (slice_index_or entries n found) { descriptor = new })) e
    ∙ sym (renamed_is entries old new found there)
