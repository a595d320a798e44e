-- The first pair of a sweep that fires.
use Rattle.std.proofs.Common.{◌≡◌, ◌≤◌, ◌<◌, ◌+◌, ◌-◌, ◌++◌, ℕ, zero, suc, Bool, true, false, cond, List, [], ◌∷◌, length, drop, Option, Some, None, ap, sym, refl, ◌∙◌, arith, nat_le, map, flat_map, slice_get, is_some}
use Rattle.std.proofs.lemmas.Bool.Decides.{nat_tests}
use Rattle.pi_base.specs.{declared.guid.Guid.Guid, Guids.same_guid, Lists.numbers}
use Rattle.store_model.specs.{declared.state.Entry.Entry, declared.store_handle.Firing.Firing, declared.store_handle.Sweep.Sweep}
use Rattle.store_model.specs.{StoreState.StoreState, Service.Descriptor.guid_at, Service.Descriptor.number_at}
use Rattle.store_model.specs.Service.Sweep.{first_firing, firing_at, firing_of, next_match, pairs_left, pairs_with}
use Rattle.store_laws.specs.{Sweeps.SweepsGoOn, Sweeps.standing, Heads.last_address, Items.Item, Items.first_address}
use Rattle.store_laws.proofs.Sweeps.{fires_at, found_here, misses}
use Rattle.pei_heap.specs.{declared.links.sweep.Match.Match, Matching.IsMatchAt, Matching.IsRow}

-- no callback is left
pub no_row : (sweep : Sweep) (from ppi : ℕ) → sweep.note_to ≤ from → pairs_with sweep from ppi ≡ []
no_row sweep from ppi le =
    let none : sweep.note_to - from ≡ 0 = omega (arith, le) in
    let with : ℕ → ℕ × ℕ = λ note. (ppi, note) in
    ap (λ n. map with (numbers from n)) none

no_rows : (sweep : Sweep) (from : ℕ) (ppis : List ℕ) → sweep.note_to ≤ from → flat_map (pairs_with sweep from) ppis ≡ []
no_rows sweep from [] le = refl
no_rows sweep from (ppi ∷ ppis) le = ap (λ row. row ++ flat_map (pairs_with sweep from) ppis) (no_row sweep from ppi le) ∙ no_rows sweep from ppis le

no_pairs_on : (b : Bool) (xs ys : List (ℕ × ℕ)) → xs ≡ [] → ys ≡ [] → cond b [] (xs ++ ys) ≡ []
no_pairs_on true xs ys e f = refl
no_pairs_on false xs ys e f = ap (λ x. x ++ ys) e ∙ f

pub no_pairs : (sweep : Sweep) → sweep.note_to ≤ sweep.note_at → sweep.note_to ≤ sweep.note_from → pairs_left sweep ≡ []
no_pairs sweep le more =
    no_pairs_on (nat_le sweep.ppi_to sweep.ppi_at) (pairs_with sweep sweep.note_at sweep.ppi_at) (flat_map (pairs_with sweep sweep.note_from) (numbers (sweep.ppi_at + 1) (sweep.ppi_to - sweep.ppi_at - 1)))
    (no_row sweep sweep.note_at sweep.ppi_at le) (no_rows sweep sweep.note_from _ more)

pub nothing_left : (sweep : Sweep) → sweep.ppi_to ≤ sweep.ppi_at → pairs_left sweep ≡ []
nothing_left sweep le =
    let t : nat_le sweep.ppi_to sweep.ppi_at ≡ true = grind (arith, nat_tests, le) in
    ap (λ b. cond b [] (pairs_with sweep sweep.note_at sweep.ppi_at ++ flat_map (pairs_with sweep sweep.note_from) (numbers (sweep.ppi_at + 1) (sweep.ppi_to - sweep.ppi_at - 1)))) t

-- the last node
pub last_from : (base : ℕ) (xs : List Item) (n : ℕ) → n + 1 ≡ length xs → last_address base xs ≡ first_address base (drop n xs)
last_from base [] n e = absurd (omega (arith, e))
last_from base (x ∷ []) zero e = refl
last_from base (x ∷ []) (suc n) e = absurd (omega (arith, e))
last_from base (x ∷ y ∷ xs) zero e = absurd (omega (arith, e))
last_from base (x ∷ y ∷ xs) (suc n) e = last_from base (y ∷ xs) n (omega (arith, e))

-- a callback that has the GUID, and one that has not
fires_here : (s : StoreState) (sweep : Sweep) (ppi note : ℕ) (p n : Entry) (rest : List (ℕ × ℕ)) → slice_get s.ppis ppi ≡ Some p → slice_get s.callbacks note ≡ Some n
    → same_guid (guid_at s p.descriptor) (guid_at s n.descriptor) ≡ true → first_firing s sweep ((ppi, note) ∷ rest) ≡ firing_at s sweep (ppi, note)
fires_here s sweep ppi note p n rest e f t = rw e (rw f (rw t refl))

guids_are : (s : StoreState) (p n : ℕ) (guid told : Guid) (b : Bool) → guid ≡ guid_at s p → told ≡ guid_at s n → b ≡ same_guid guid told → same_guid (guid_at s p) (guid_at s n) ≡ b
guids_are s p n guid told b e f t = sym (t ∙ ap (λ g. same_guid g told) e ∙ ap (same_guid (guid_at s p)) f)

pub match_at : (s : StoreState) (sweep : Sweep) (ppi from place to entry : ℕ) (guid told : Guid) (n : Entry) (rest : List Entry) → SweepsGoOn → IsRow s sweep ppi to guid → place < to
    → drop place s.callbacks ≡ n ∷ rest → slice_get s.callbacks place ≡ Some n → told ≡ guid_at s n.descriptor → entry ≡ number_at s n.descriptor → true ≡ same_guid guid told
    → first_firing s sweep (pairs_with sweep place ppi) ≡ first_firing s sweep (pairs_with sweep from ppi) → IsMatchAt s sweep ppi from (record { place = place; entry = entry })
match_at s sweep ppi from place to entry guid told n rest law row below there get same number hit left =
    let to_is = row.to_is in
    let inside : place < sweep.note_to = omega (arith, below, to_is) in
    record {
      note = n;
      there = get;
      entry_is = number;
      inside = inside;
      fires = sym left ∙ ap (first_firing s sweep) (law.next_note sweep ppi place inside)
          ∙ fires_here s sweep ppi place row.entry n (pairs_with sweep (place + 1) ppi) row.there get (guids_are s row.entry.descriptor n.descriptor guid told true row.guid_is same hit);
    }

pub match_past : (s : StoreState) (sweep : Sweep) (ppi from place to : ℕ) (guid told : Guid) (n : Entry) → SweepsGoOn → IsRow s sweep ppi to guid → place < to
    → slice_get s.callbacks place ≡ Some n → told ≡ guid_at s n.descriptor → false ≡ same_guid guid told
    → first_firing s sweep (pairs_with sweep place ppi) ≡ first_firing s sweep (pairs_with sweep from ppi)
    → first_firing s sweep (pairs_with sweep (place + 1) ppi) ≡ first_firing s sweep (pairs_with sweep from ppi)
match_past s sweep ppi from place to guid told n law row below get same miss left =
    let to_is = row.to_is in
    let inside : place < sweep.note_to = omega (arith, below, to_is) in
    sym (misses s sweep ppi place row.entry n row.there get (guids_are s row.entry.descriptor n.descriptor guid told false row.guid_is same miss) (pairs_with sweep (place + 1) ppi))
    ∙ sym (ap (first_firing s sweep) (law.next_note sweep ppi place inside)) ∙ left

pub match_none : (s : StoreState) (sweep : Sweep) (ppi from place to : ℕ) (guid : Guid) → IsRow s sweep ppi to guid → to ≤ place
    → first_firing s sweep (pairs_with sweep place ppi) ≡ first_firing s sweep (pairs_with sweep from ppi) → first_firing s sweep (pairs_with sweep from ppi) ≡ None
match_none s sweep ppi from place to guid row le left =
    let to_is = row.to_is in
    sym left ∙ ap (first_firing s sweep) (no_row sweep place ppi (omega (arith, le, to_is)))

pub still_there : {A : Type 0} (xs : List A) (i : ℕ) → i < length xs → drop i xs ≡ [] → ⊥
still_there [] i le e = absurd (omega (arith, le))
still_there (x ∷ xs) zero le e = cc
still_there (x ∷ xs) (suc i) le e = still_there xs i (omega (arith, le)) e

-- the pair that fires
same_firing : (s : StoreState) (p n entry offset : ℕ) (guid : Guid) (value : ℕ) → entry ≡ number_at s n → offset ≡ p → guid ≡ guid_at s p → value ≡ number_at s p
    → record { entry = entry; ppi = record { offset = offset }; guid = guid; value = value } ≡ firing_of s p n
same_firing s p n entry offset guid value a b c d =
    let made : ℕ → ℕ → Guid → ℕ → Firing = λ a b c d. record { entry = a; ppi = record { offset = b }; guid = c; value = d } in
    ap (λ x. made x offset guid value) a ∙ ap (λ x. made (number_at s n) x guid value) b ∙ ap (λ x. made (number_at s n) p x value) c ∙ ap (λ x. made (number_at s n) p (guid_at s p) x) d

is_some_by : {A : Type 0} (x : Option A) (y : A) → x ≡ Some y → is_some x ≡ true
is_some_by x y e = ap is_some e

pub pair_fires : (s : StoreState) (sweep : Sweep) (ppi from : ℕ) (found : Match) (p : Entry) (guid : Guid) (value : ℕ) → ppi < sweep.ppi_to → slice_get s.ppis ppi ≡ Some p
    → first_firing s sweep (pairs_left (standing sweep ppi from)) ≡ next_match s sweep → IsMatchAt s sweep ppi from found → guid ≡ guid_at s p.descriptor → value ≡ number_at s p.descriptor
    → next_match s sweep ≡ Some (record { entry = found.entry; ppi = record { offset = p.descriptor }; guid = guid; value = value }, record sweep { ppi_at = ppi; note_at = found.place + 1 })
pair_fires s sweep ppi from found p guid value below there left is same number =
    let at = fires_at s sweep ppi found.place p is.note there is.there in
    let fired = same_firing s p.descriptor is.note.descriptor found.entry p.descriptor guid value is.entry_is refl same number in
    let told : Firing → Option (Firing × Sweep) = λ f. Some (f, record sweep { ppi_at = ppi; note_at = found.place + 1 }) in
    found_here s sweep ppi from (next_match s sweep) (ppi, found.place) below left is.fires (is_some_by _ _ at) ∙ at ∙ ap told (sym fired)
