-- The pairs of a sweep, by the rows of a state.
use Rattle.std.proofs.Common.{◌≡◌, ℕ, zero, suc, ◌+◌, ◌-◌, ◌<◌, ◌≤◌, Bool, true, false, cond, List, [], ◌∷◌, ap, arith, refl, sym, subst, ◌∙◌, Option, Some, None, inl, inr, map, option_map, slice_get, unwrap_or, option_and_then}
use Rattle.std.proofs.{lemmas.Bool.Decides.eqb_tells, lemmas.Bool.Decides.same_from_decides, lemmas.Slice.Eq.bytes_eq-Decides}
use Rattle.pi_base.specs.{declared.guid.Guid.Guid, Guids.same_guid, Lists.numbers}
use Rattle.mem_store.specs.{declared.guid_index.index.Indexed.Indexed, Entries.has_at, Entries.has_guid, Rows.row_at, Rows.rows_of}
use Rattle.store_model.specs.{declared.state.Entry.Entry, declared.store_handle.Firing.Firing, declared.store_handle.Sweep.Sweep}
use Rattle.store_model.specs.{StoreState.StoreState, Service.Descriptor.guid_at}
use Rattle.store_model.specs.Service.Sweep.{first_firing, firing_at, have_one_guid, pairs_left, pairs_with, places_at}
use Rattle.store_laws.specs.Sweeps.{standing}
use Rattle.store_laws.proofs.Sweeps.{none_here}
use Rattle.mem_store.specs.Indexed.{Rows, all_rows}
use Rattle.mem_store.specs.Meeting.{IsFirstMet, NoneMeets, meets}

pub turned : (a b : Guid) → same_guid a b ≡ same_guid b a
turned a b =
    let there = bytes_eq-Decides a.0 b.0 in
    let back = bytes_eq-Decides b.0 a.0 in
    same_from_decides (same_guid a b) (same_guid b a) there (λ t. sym (back.0 t), λ e. back.1 (sym e))

-- the row of an entry
abbrev pub entry_row : StoreState → Entry → Indexed
entry_row s entry = row_at s entry.descriptor

pub get_row : (s : StoreState) (entries : List Entry) (place : ℕ) → slice_get (rows_of s entries) place ≡ option_map (entry_row s) (slice_get entries place)
get_row s [] place = refl
get_row s (e ∷ es) zero = refl
get_row s (e ∷ es) (suc place) = get_row s es place

met_on : (s : StoreState) (p n : Option Entry)
    → have_one_guid s (option_and_then (λ (ppi : Entry). option_map (λ (note : Entry). (ppi.descriptor, note.descriptor)) n) p)
    ≡ unwrap_or (option_map (λ (row : Indexed). unwrap_or (option_map (has_guid row.guid) (option_map (entry_row s) n)) false) (option_map (entry_row s) p)) false
met_on s None n = refl
met_on s (Some p) None = refl
met_on s (Some p) (Some n) = turned (guid_at s p.descriptor) (guid_at s n.descriptor)

-- places meet where their rows do
pub met_is : (s : StoreState) (ppi note : ℕ) → have_one_guid s (places_at s (ppi, note)) ≡ meets (all_rows s) ppi note
met_is s ppi note =
    met_on s (slice_get s.ppis ppi) (slice_get s.callbacks note)
    ∙ ap (λ o. unwrap_or (option_map (λ (row : Indexed). unwrap_or (option_map (has_guid row.guid) o) false) (option_map (entry_row s) (slice_get s.ppis ppi))) false)
    (sym (get_row s s.callbacks note))
    ∙ ap (λ o. unwrap_or (option_map (λ (row : Indexed). has_at (rows_of s s.callbacks) row.guid note) o) false) (sym (get_row s s.ppis ppi))

abbrev one : StoreState → ℕ → ℕ → Bool
one s ppi note = have_one_guid s (places_at s (ppi, note))

abbrev with : ℕ → ℕ → ℕ × ℕ
with ppi note = (ppi, note)

first_none : (s : StoreState) (sweep : Sweep) (ppi from count : ℕ) → ((note : ℕ) → from ≤ note → note < from + count → one s ppi note ≡ false)
    → first_firing s sweep (map (with ppi) (numbers from count)) ≡ None
first_none s sweep ppi from zero none = refl
first_none s sweep ppi from (suc count) none =
    ap (λ b. cond b (firing_at s sweep (ppi, from)) (first_firing s sweep (map (with ppi) (numbers (from + 1) count)))) (none from (omega arith) (omega arith))
    ∙ first_none s sweep ppi (from + 1) count (λ note low high. none note (omega (arith, low)) (omega (arith, high)))

first_met : (s : StoreState) (sweep : Sweep) (ppi from count note : ℕ) → from ≤ note → note < from + count → one s ppi note ≡ true
    → ((other : ℕ) → from ≤ other → other < note → one s ppi other ≡ false) → first_firing s sweep (map (with ppi) (numbers from count)) ≡ firing_at s sweep (ppi, note)
first_met s sweep ppi from zero note low high met none = absurd (omega (arith, low, high))
first_met s sweep ppi from (suc count) note low high met none =
    let rest : List (ℕ × ℕ) = map (with ppi) (numbers (from + 1) count) in
    let step : Bool → Option (Firing × Sweep) = λ b. cond b (firing_at s sweep (ppi, from)) (first_firing s sweep rest) in
    elim (eqb_tells from note) [
      | inl same ↦ ap step (ap (one s ppi) same.1 ∙ met) ∙ ap (λ n. firing_at s sweep (ppi, n)) same.1
      | inr apart ↦
          let less : from < note = omega (arith, low, apart.1) in
          ap step (none from (omega arith) less)
          ∙ first_met s sweep ppi (from + 1) count note (omega (arith, less)) (omega (arith, high)) met (λ other l h. none other (omega (arith, l)) h)
    ]

meets_one : (s : StoreState) (rows : Rows) (ppi note : ℕ) (b : Bool) → rows ≡ all_rows s → meets rows ppi note ≡ b → one s ppi note ≡ b
meets_one s rows ppi note b are is = met_is s ppi note ∙ ap (λ r. meets r ppi note) (sym are) ∙ is

-- none of a PPI's callbacks fires
pub row_none : (s : StoreState) (rows : Rows) (sweep : Sweep) (ppi from : ℕ) → rows ≡ all_rows s
    → ((note : ℕ) → from ≤ note → note < sweep.note_to → meets rows ppi note ≡ false) → first_firing s sweep (pairs_with sweep from ppi) ≡ None
row_none s rows sweep ppi from are none = first_none s sweep ppi from (sweep.note_to - from)
    (λ note low high. meets_one s rows ppi note false are (none note low (omega (arith, low, high))))

-- the first that meets it fires first
pub row_first : (s : StoreState) (rows : Rows) (sweep : Sweep) (ppi from note : ℕ) → rows ≡ all_rows s → IsFirstMet rows ppi from sweep.note_to (Some note)
    → first_firing s sweep (pairs_with sweep from ppi) ≡ firing_at s sweep (ppi, note)
row_first s rows sweep ppi from note are met =
    let low = met.0 in
    let high = met.1 in
    first_met s sweep ppi from (sweep.note_to - from) note low (omega (arith, low, high)) (meets_one s rows ppi note true are met.2)
    (λ other l h. meets_one s rows ppi other false are (met.3 other l h))

-- PPIs that meet none are passed over
pub passed : (s : StoreState) (rows : Rows) (sweep : Sweep) (all : Option (Firing × Sweep)) (count from to : ℕ) → rows ≡ all_rows s → to ≡ from + count → to ≤ sweep.ppi_to
    → NoneMeets rows sweep from to → first_firing s sweep (pairs_left (standing sweep from sweep.note_from)) ≡ all
    → first_firing s sweep (pairs_left (standing sweep to sweep.note_from)) ≡ all
passed s rows sweep all zero from to are is le none left =
    let same : from ≡ to = omega (arith, is) in
    subst (λ p. first_firing s sweep (pairs_left (standing sweep p sweep.note_from)) ≡ all) same left
passed s rows sweep all (suc count) from to are is le none left =
    passed s rows sweep all count (from + 1) to are (omega (arith, is)) le (λ ppi note low high l h. none ppi note (omega (arith, low)) high l h)
    (none_here s sweep from sweep.note_from all (omega (arith, is, le)) left
    (row_none s rows sweep from sweep.note_from are (λ note l h. none from note (omega arith) (omega (arith, is)) l h)))
