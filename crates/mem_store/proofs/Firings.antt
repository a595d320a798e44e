-- What fires at a PPI and a callback that meet.
use Rattle.std.proofs.Common.{◌≡◌, ℕ, zero, suc, ◌+◌, Bool, true, false, cond, List, [], ◌∷◌, ap, refl, sym, subst, ◌∙◌, Option, Some, None, filter, is_some, option_map, slice_get}
use Rattle.mem_store.specs.{declared.guid_index.index.Indexed.Indexed, Entries.entries_of, Entries.has_guid, declared.index.Index.Index}
use Rattle.pi_base.specs.declared.guid.Guid.{Guid}
use Rattle.store_model.specs.{declared.store_handle.DescKind.DescKind, declared.store_handle.DescKind.TheVariants.Ppi}
use Rattle.store_model.specs.{StateFacts.IsDesc, StateFacts.IsStoreState, Service.Descriptor.guid_at, Service.Descriptor.number_at}
use Rattle.store_laws.specs.Named.{IsNamed, NamedAreThere}
use Rattle.store_laws.proofs.Sweeps.{fires_at}
use Rattle.store_model.specs.{declared.state.Entry.Entry, declared.store_handle.Firing.Firing, declared.store_handle.Sweep.Sweep}
use Rattle.store_model.specs.StoreState.{StoreState}
use Rattle.store_model.specs.Service.Sweep.{firing_at, firing_of, have_one_guid, places_at}
use Rattle.mem_store.specs.{Rows.rows_of, Meeting.meets}
use Rattle.mem_store.specs.Indexed.{Rows, all_rows, held}
use Rattle.mem_store.proofs.Meetings.{entry_row, met_is}

-- what is told at two places
abbrev told : StoreState → Sweep → ℕ × ℕ → ℕ × ℕ → Firing × Sweep
told s sweep pair places = (firing_of s places.0 places.1, record sweep { ppi_at = pair.0; note_at = pair.1 + 1 })

some_on : (s : StoreState) (sweep : Sweep) (pair : ℕ × ℕ) (places : Option (ℕ × ℕ)) → have_one_guid s places ≡ true
    → is_some (option_map (told s sweep pair) places) ≡ true
some_on s sweep pair None met = absurd (let no : false ≡ true = met in cc)
some_on s sweep pair (Some places) met = refl

pub some_fires : (s : StoreState) (rows : Rows) (sweep : Sweep) (ppi note : ℕ) → rows ≡ all_rows s → meets rows ppi note ≡ true
    → is_some (firing_at s sweep (ppi, note)) ≡ true
some_fires s rows sweep ppi note are met = some_on s sweep (ppi, note) (places_at s (ppi, note)) (met_is s ppi note ∙ ap (λ r. meets r ppi note) (sym are) ∙ met)

-- a row that is there is an entry's
pub record IsRowOf (s : StoreState) (entries : List Entry) (place : ℕ) (row : Indexed) : Type 0 where
  pub entry : Entry
  pub there : slice_get entries place ≡ Some entry
  pub row_is : row ≡ entry_row s entry

pub row_entry : (s : StoreState) (entries : List Entry) (place : ℕ) (row : Indexed) → Some row ≡ slice_get (rows_of s entries) place → IsRowOf s entries place row
row_entry s [] place row is = absurd (let no : Some row ≡ None = is in cc)
row_entry s (e ∷ es) zero row is =
    let same : Some row ≡ Some (entry_row s e) = is in
    let eq : row ≡ entry_row s e = cc in
    record { entry = e; there = refl; row_is = eq }
row_entry s (e ∷ es) (suc place) row is =
    let rest = row_entry s es place row is in
    record { entry = rest.entry; there = rest.there; row_is = rest.row_is }

-- an item that passes a test is one of all
filtered_on : (f : Indexed → Bool) (b : Bool) (y : Indexed) (ys : List Indexed) (n : ℕ) (x : Indexed)
    → ((m : ℕ) → Some x ≡ slice_get (filter f ys) m → (place : ℕ) × (Some x ≡ slice_get ys place))
    → Some x ≡ slice_get (cond b (y ∷ filter f ys) (filter f ys)) n → (place : ℕ) × (Some x ≡ slice_get (y ∷ ys) place)
filtered_on f true y ys zero x more is = (0, is)
filtered_on f true y ys (suc n) x more is = let there = more n is in (suc there.0, there.1)
filtered_on f false y ys n x more is = let there = more n is in (suc there.0, there.1)

filtered_at : (f : Indexed → Bool) (xs : List Indexed) (n : ℕ) (x : Indexed) → Some x ≡ slice_get (filter f xs) n → (place : ℕ) × (Some x ≡ slice_get xs place)
filtered_at f [] n x is = absurd (let no : Some x ≡ None = is in cc)
filtered_at f (y ∷ ys) n x is = filtered_on f (f y) y ys n x (λ m e. filtered_at f ys m x e) is

-- where a row points a descriptor stands, which its list's entries name
pub desc_at : (s : StoreState) (kind : DescKind) (entry : Entry) (row : Indexed) → IsNamed s kind entry.descriptor → row ≡ entry_row s entry → IsDesc s (record { offset = row.at })
desc_at s kind entry row named is =
    let there : IsDesc s (record { offset = entry.descriptor }) = (named.there.0, named.there.1) in
    subst (λ (at : ℕ). IsDesc s (record { offset = at })) (ap (λ r. r.at) (sym is)) there

pub ppi_desc : NamedAreThere → (s : StoreState) (index : Index) (guid : Guid) (n : ℕ) (row : Indexed) → IsStoreState s → held index ≡ all_rows s
    → Some row ≡ slice_get (entries_of index.ppis guid) n → IsDesc s (record { offset = row.at })
ppi_desc named s index guid n row state says is =
    let there = filtered_at (has_guid guid) (rows_of s s.ppis) n row (is ∙ ap (λ r. slice_get (entries_of r.ppis guid) n) says) in
    let entry = row_entry s s.ppis there.0 row there.1 in
    desc_at s Ppi entry.entry row (named.ppi s there.0 entry.entry state entry.there) entry.row_is

-- the entries of the rows in two places
pub ppi_entry : (s : StoreState) (index : Index) (place : ℕ) (row : Indexed) → held index ≡ all_rows s → Some row ≡ slice_get index.ppis place → IsRowOf s s.ppis place row
ppi_entry s index place row says is = row_entry s s.ppis place row (is ∙ ap (λ r. slice_get r.ppis place) says)

pub note_entry : (s : StoreState) (index : Index) (place : ℕ) (row : Indexed) → held index ≡ all_rows s → Some row ≡ slice_get index.callbacks place
    → IsRowOf s s.callbacks place row
note_entry s index place row says is = row_entry s s.callbacks place row (is ∙ ap (λ r. slice_get r.callbacks place) says)

abbrev firing : ℕ → ℕ → Guid → ℕ → Firing
firing entry ppi guid value = record { entry = entry; ppi = record { offset = ppi }; guid = guid; value = value }

-- what the two rows tell is what fires
pub fires : (s : StoreState) (sweep : Sweep) (ppi note entry value : ℕ) (p n : Indexed) → (at : IsRowOf s s.ppis ppi p) → (by : IsRowOf s s.callbacks note n)
    → entry ≡ number_at s n.at → value ≡ number_at s p.at
    → firing_at s sweep (ppi, note) ≡ Some (firing entry p.at p.guid value, record sweep { ppi_at = ppi; note_at = note + 1 })
fires s sweep ppi note entry value p n at by e v =
    let place : p.at ≡ at.entry.descriptor = ap (λ r. r.at) at.row_is in
    let guid : p.guid ≡ guid_at s at.entry.descriptor = ap (λ r. r.guid) at.row_is in
    let block : entry ≡ number_at s by.entry.descriptor = e ∙ ap (λ r. number_at s r.at) by.row_is in
    let number : value ≡ number_at s at.entry.descriptor = v ∙ ap (number_at s) place in
    let same : firing entry p.at p.guid value ≡ firing_of s at.entry.descriptor by.entry.descriptor =
    ap (λ x. firing x p.at p.guid value) block ∙ ap (λ x. firing (number_at s by.entry.descriptor) x p.guid value) place
    ∙ ap (λ x. firing (number_at s by.entry.descriptor) at.entry.descriptor x value) guid
    ∙ ap (firing (number_at s by.entry.descriptor) at.entry.descriptor (guid_at s at.entry.descriptor)) number in
    let all : Firing → Option (Firing × Sweep) = λ f. Some (f, record sweep { ppi_at = ppi; note_at = note + 1 }) in
    fires_at s sweep ppi note at.entry by.entry at.there by.there ∙ ap all (sym same)
