-- What an index says of the state behind a call that puts entries.
use Rattle.std.proofs.Common.{◌≡◌, ℕ, Bool, true, false, not, cond, List, [], ◌∷◌, ◌++◌, length, ap, refl, sym, subst, ◌∙◌, Option, Some, Ok, Err, filter, map, nat_lt, option_map, slice_get, slice_set, unwrap_or}
use Rattle.std.proofs.lemmas.Slice.Eq.{bytes_eq-Decides}
use Rattle.pi_base.specs.{declared.guid.Guid.Guid, declared.known_guid.TheConstants.MEMORY_PPI, Guids.same_guid}
use Rattle.mem_store.specs.{declared.guid_index.index.Indexed.Indexed, Entries.entries_of, Entries.has_guid, Answering.RowsAnswer}
use Rattle.store_model.specs.{declared.store_handle.Desc.Desc, declared.store_handle.StoreFault.StoreFault}
use Rattle.store_model.specs.declared.store_handle.StoreFault.TheVariants as F
use Rattle.store_model.specs.{declared.store_handle.Sweep.Sweep, Service.Service, Service.in_room}
use Rattle.store_model.specs.StoreState.{StoreState, free, next_body}
use Rattle.store_model.specs.Service.Descriptor.{is_ppi, kind_at, offsets}
use Rattle.store_model.specs.Service.Install as I
use Rattle.store_model.specs.{Service.Notify.new_callbacks, Service.Notify.new_dispatches, Service.Reading.nth_ppi}
use Rattle.mem_store.specs.Rows.{row_at, rows_of, told_row}
use Rattle.mem_store.specs.Serving.{RowsInstalled, RowsNotified, RowsOfCore, RowsReplaced}
use Rattle.mem_store.specs.{declared.index.Index.Index, Nodes.Follows, Nodes.NamesOther}
use Rattle.mem_store.specs.Indexed.{Becomes, BecomesCore, HasCore, Says, all_rows, held}
use Rattle.mem_store.proofs.Learning.{grown, other, still}
use Rattle.mem_store.proofs.Saying.{becomes_says, three}

pub installed_says : (old new : Index) (s t : StoreState) (list : List Desc) → RowsInstalled s t list → new.named ≡ old.named
    → Becomes old new (record (held old) { ppis = old.ppis ++ map (row_at t) (offsets list) }) → Says old s → Says new t
installed_says old new s t list rows named becomes says =
    becomes_says old new s t (record (held old) { ppis = old.ppis ++ map (row_at t) (offsets list) }) becomes
    (λ e. three _ _ _ _ _ _
    (ap (λ r. r.ppis ++ map (row_at t) (offsets list)) e ∙ ap (λ l. rows_of s s.ppis ++ l) rows.descs.rows ∙ sym rows.ppis)
    (ap (λ r. r.callbacks) e ∙ sym rows.callbacks)
    (ap (λ r. r.dispatches) e ∙ sym rows.dispatches))
    (grown old.named new.named s t named rows.named says.named)
    says

pub notified_says : (old new : Index) (s t : StoreState) (list : List Desc) → RowsNotified s t list → new.named ≡ old.named
    → Becomes old new (record (held old) {
      callbacks = old.callbacks ++ map (row_at t) (new_callbacks t list);
      dispatches = old.dispatches ++ map (row_at t) (new_dispatches t list);
    }) → Says old s → Says new t
notified_says old new s t list rows named becomes says =
    becomes_says old new s t (record (held old) {
      callbacks = old.callbacks ++ map (row_at t) (new_callbacks t list);
      dispatches = old.dispatches ++ map (row_at t) (new_dispatches t list);
    }) becomes
    (λ e. three _ _ _ _ _ _
    (ap (λ r. r.ppis) e ∙ sym rows.ppis)
    (ap (λ r. r.callbacks ++ map (row_at t) (new_callbacks t list)) e ∙ ap (λ l. rows_of s s.callbacks ++ l) rows.descs.callbacks ∙ sym rows.callbacks)
    (ap (λ r. r.dispatches ++ map (row_at t) (new_dispatches t list)) e ∙ ap (λ l. rows_of s s.dispatches ++ l) rows.descs.dispatches ∙ sym rows.dispatches))
    (subst (λ n. Follows n t) (sym named) (still old.named s t rows.named says.named))
    says

pub replaced_says : (old new : Index) (s t : StoreState) (place at : ℕ) (row : Indexed) (d : Desc) → place ≡ at → row ≡ row_at s d.offset → RowsReplaced s t at d
    → NamesOther old.named new.named place row.at
    → Becomes old new (record (held old) { ppis = slice_set old.ppis place row }) → Says old s → Says new t
replaced_says old new s t place at row d here is rows named becomes says =
    becomes_says old new s t (record (held old) { ppis = slice_set old.ppis place row }) becomes
    (λ e. three _ _ _ _ _ _
    (ap (λ r. slice_set r.ppis place row) e ∙ ap (λ p. slice_set (rows_of s s.ppis) p row) here ∙ ap (slice_set (rows_of s s.ppis) at) is ∙ sym rows.ppis)
    (ap (λ r. r.callbacks) e ∙ sym rows.callbacks)
    (ap (λ r. r.dispatches) e ∙ sym rows.dispatches))
    (other old.named new.named s t place row.at at d.offset here (ap (λ (r : Indexed). r.at) is) rows.named named says.named)
    says

-- a service that answers was not refused
answered : {A : Type 0} (b : Bool) (fault : StoreFault) (service : Service A) (answer : A × StoreState) → cond b (Err fault) service ≡ Ok answer → service ≡ Ok answer
answered true fault service answer is = absurd (cc)
answered false fault service answer is = is

-- its sweep
abbrev sweep_in : Service Sweep → Sweep → Sweep
sweep_in (Ok answer) none = answer.0
sweep_in (Err fault) none = none

-- the sweep of a reinstall begins at the PPI's place
pub sweep_of_reinstall : (s : StoreState) (old new : Desc) (by : ℕ) (sweep : Sweep) (t : StoreState) → I.reinstall s old new by ≡ Ok (sweep, t) → sweep.ppi_at ≡ I.place_of s.ppis old.offset
sweep_of_reinstall s old new by sweep t is =
    let need : ℕ = I.node_need (length (I.reinstall_pairs s new)) in
    let done : Sweep × StoreState = (I.reinstall_sweep s old, I.reinstalled s old new by) in
    let told : Sweep × StoreState = (sweep, t) in
    let room : Service Sweep = in_room s need (Ok done) in
    let second = answered (not (is_ppi (kind_at s new.offset))) F.Bad (cond (not (I.is_installed s old)) (Err F.Missing) room) told is in
    let third = answered (not (I.is_installed s old)) F.Missing room told second in
    ap (λ (x : Service Sweep). (sweep_in x sweep).ppi_at) (sym (answered (nat_lt (free s) need) F.Full (Ok done) told third))

same_self : (guid : Guid) → same_guid guid guid ≡ true
same_self guid = (bytes_eq-Decides guid.0 guid.0).1 refl

filter_on : (f : Indexed → Bool) (b : Bool) (x : Indexed) (xs : List Indexed) (row : Indexed) → filter f (xs ++ row ∷ []) ≡ filter f xs ++ row ∷ []
    → cond b (x ∷ filter f (xs ++ row ∷ [])) (filter f (xs ++ row ∷ [])) ≡ cond b (x ∷ filter f xs) (filter f xs) ++ row ∷ []
filter_on f true x xs row h = ap (λ l. x ∷ l) h
filter_on f false x xs row h = h

filter_last : (f : Indexed → Bool) (xs : List Indexed) (row : Indexed) → f row ≡ true → filter f (xs ++ row ∷ []) ≡ filter f xs ++ row ∷ []
filter_last f [] row is = ap (λ b. cond b (row ∷ []) []) is
filter_last f (x ∷ xs) row is = filter_on f (f x) x xs row (filter_last f xs row is)

get_last : (xs : List Indexed) (row : Indexed) → slice_get (xs ++ row ∷ []) (length xs) ≡ Some row
get_last [] row = refl
get_last (x ∷ xs) row = get_last xs row

-- where what is told points
abbrev points : Option (Desc × ℕ) → ℕ
points told = unwrap_or (option_map (λ (d : Desc × ℕ). d.0.offset) told) 0

abbrev made : Guid → ℕ → Indexed
made guid at = record { guid = guid; at = at }

same_row : (a b : Guid) (x y : ℕ) → a ≡ b → x ≡ y → made a x ≡ made b y
same_row a b x y e f = ap (λ g. made g x) e ∙ ap (made b) f

-- the row of the PPI of permanent memory
abbrev core_row : StoreState → Indexed
core_row s = record { guid = MEMORY_PPI; at = next_body s }

core_is : RowsAnswer → (old new : Index) (s t : StoreState) → RowsOfCore s t → held old ≡ all_rows s → (has : HasCore old new t) → has.row ≡ core_row s
core_is answer old new s t rows says has =
    let others : List Indexed = entries_of (rows_of s s.ppis) MEMORY_PPI in
    let before : entries_of old.ppis MEMORY_PPI ≡ others = ap (λ r. entries_of r.ppis MEMORY_PPI) says in
    let all : entries_of (rows_of t t.ppis) MEMORY_PPI ≡ others ++ core_row s ∷ [] =
    ap (λ l. entries_of l MEMORY_PPI) rows.ppis ∙ filter_last (has_guid MEMORY_PPI) (rows_of s s.ppis) (core_row s) (same_self MEMORY_PPI) in
    let told : Some (told_row t has.row) ≡ Some (told_row t (core_row s)) =
    has.last ∙ ap (λ l. nth_ppi t MEMORY_PPI (length l)) before ∙ sym (answer.nth t MEMORY_PPI (length others))
    ∙ ap (λ l. option_map (told_row t) (slice_get l (length others))) all ∙ ap (option_map (told_row t)) (get_last others (core_row s)) in
    same_row has.row.guid MEMORY_PPI has.row.at (next_body s) has.guid_is (ap points told)

pub core_says : RowsAnswer → (old new : Index) (s t : StoreState) → RowsOfCore s t → new.named ≡ old.named → BecomesCore old new t → Says old s → Says new t
core_says answer old new s t rows named becomes says = record {
  rows = λ right.
      let has = becomes right in
      let e = says.rows has.was in
      let row = core_is answer old new s t rows e has in
      has.rows
      ∙ three _ _ _ _ _ _
      (ap (λ r. r.ppis ++ has.row ∷ []) e ∙ ap (λ r. rows_of s s.ppis ++ r ∷ []) row ∙ sym rows.ppis)
      (ap (λ r. r.callbacks) e ∙ sym rows.callbacks)
      (ap (λ r. r.dispatches) e ∙ sym rows.dispatches);
  named = grown old.named new.named s t named rows.named says.named;
}
