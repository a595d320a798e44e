-- What holds of every state is kept where the entries and pairs of a whole call are added, one after the other.
use Rattle.std.proofs.Common.{◌≡◌, ◌≢◌, ℕ, Bool, true, false, List, [], ◌∷◌, sym, refl, ap, subst, ◌∙◌, map, fold, not, if◌then◌else◌, ◌&&◌, ◌||◌}
use Rattle.std.specs.List.{list_all, list_any}
use Rattle.pi_base.specs.{Guids.same_guid, Lists.Each}
use Rattle.pi_base.proofs.ListFacts.{each_append, each_filter, each_more}
use Rattle.store_model.specs.{declared.store_handle.DescKind.DescKind, declared.store_handle.Desc.Desc, declared.state.Entry.Entry}
use Rattle.store_model.specs.declared.store_handle.DescKind.TheVariants.{Ppi, Callback, Dispatch}
use Rattle.store_model.specs.StoreState.{StoreState}
use Rattle.store_model.specs.StateFacts.{IsDesc, IsDescriptorAt, IsEntry}
use Rattle.store_model.specs.Service.Descriptor.{descriptors, guid_at, is_callback, is_ppi, kind_at, offsets}
use Rattle.store_model.specs.Service.Install.{install_pairs, installed, pairs_of, reinstall_pairs, reinstalled, renamed, with_pending, with_ppi}
use Rattle.store_model.specs.Service.Notify.{new_dispatches, notified, notify_pairs, with_note}
use Rattle.store_laws.specs.{Bodies.IsGrown, Keeping.IsWord, Steps.IsPair}
use Rattle.store_laws.proofs.Sound.{IsSound, descriptor_grows}
use Rattle.store_laws.proofs.Steps.{grown_node, kind_is, renamed_sound, with_note_sound, with_pending_sound, with_ppi_sound}

-- pairs
pair_grows : (s t : StoreState) → IsGrown s t → (pairs : List (ℕ × ℕ)) → Each (IsPair s) pairs → Each (IsPair t) pairs
pair_grows s t grown pairs h =
    each_more (IsPair s) (IsPair t) pairs (λ x p. record { ppi = descriptor_grows s t Ppi grown x.0 p.ppi; note = descriptor_grows s t Dispatch grown x.1 p.note }) h

pendings_sound : (by : ℕ) (pairs : List (ℕ × ℕ)) (s : StoreState) → IsWord by → IsSound s → Each (IsPair s) pairs → IsSound (fold (with_pending by) s pairs)
pendings_sound by [] s word h each = h
pendings_sound by (pair ∷ pairs) s word h each =
    let t = with_pending by s pair in
    pendings_sound by pairs t word (with_pending_sound by s pair word h each.0) (pair_grows s t (grown_node s) pairs each.1)

-- PPIs
abbrev IsPpiDesc : StoreState → Desc → Type 0
IsPpiDesc s d = IsDescriptorAt s Ppi d.offset

ppis_sound : (by : ℕ) (list : List Desc) (s : StoreState) → IsWord by → IsSound s → Each (IsPpiDesc s) list
    → IsSound (fold (with_ppi by) s list) × IsGrown s (fold (with_ppi by) s list)
ppis_sound by [] s word h each = (h, λ place body e. e)
ppis_sound by (d ∷ ds) s word h each =
    let t = with_ppi by s d in
    let later = each_more (IsPpiDesc s) (IsPpiDesc t) ds (λ x is. descriptor_grows s t Ppi (grown_node s) x.offset is) each.1 in
    let rest = ppis_sound by ds t word (with_ppi_sound by s d word h each.0) later in
    (rest.0, λ place body e. rest.1 place body (grown_node s place body e))

-- notifications
abbrev IsNote : StoreState → Desc → Type 0
IsNote s d = (kind : DescKind) × (kind ≢ Ppi) × IsDescriptorAt s kind d.offset

notes_sound : (by : ℕ) (list : List Desc) (s : StoreState) → IsWord by → IsSound s → Each (IsNote s) list
    → IsSound (fold (with_note by) s list) × IsGrown s (fold (with_note by) s list)
notes_sound by [] s word h each = (h, λ place body e. e)
notes_sound by (d ∷ ds) s word h each =
    let t = with_note by s d in
    let first = with_note_sound each.0.0 by s d word h each.0.1 each.0.2 in
    let later = each_more (IsNote s) (IsNote t) ds (λ x is. (is.0, is.1, descriptor_grows s t is.0 first.1 x.offset is.2)) each.1 in
    let rest = notes_sound by ds t word first.0 later in
    (rest.0, λ place body e. rest.1 place body (first.1 place body e))

abbrev with_first : ℕ → ℕ → ℕ × ℕ
with_first ppi note = (ppi, note)

row_each : (s : StoreState) (ppi : ℕ) → IsDescriptorAt s Ppi ppi → (notes : List ℕ) → Each (IsDescriptorAt s Dispatch) notes → Each (IsPair s) (map (λ note. with_first ppi note) notes)
row_each s ppi is [] h = tt
row_each s ppi is (note ∷ notes) h = (record { ppi = is; note = h.0 }, row_each s ppi is notes h.1)

pairs_each : (s : StoreState) (ppis notes : List ℕ) → Each (IsDescriptorAt s Ppi) ppis → Each (IsDescriptorAt s Dispatch) notes → Each (IsPair s) (pairs_of s ppis notes)
pairs_each s [] notes h k = tt
pairs_each s (ppi ∷ ppis) notes h k =
    each_append (IsPair s) _ (pairs_of s ppis notes) (row_each s ppi h.0 _ (each_filter (IsDescriptorAt s Dispatch) (λ note. same_guid (guid_at s ppi) (guid_at s note)) notes k)) (pairs_each s ppis notes h.1 k)

offsets_each : (s : StoreState) (list : List Desc) → Each (IsPpiDesc s) list → Each (IsDescriptorAt s Ppi) (offsets list)
offsets_each s [] h = tt
offsets_each s (d ∷ ds) h = (h.0, offsets_each s ds h.1)

entries_each : (s : StoreState) (kind : DescKind) (entries : List Entry) → Each (IsEntry s kind) entries → Each (IsDescriptorAt s kind) (descriptors entries)
entries_each s kind [] h = tt
entries_each s kind (entry ∷ entries) h = (h.0.1, entries_each s kind entries h.1)

pub installed_sound : (s : StoreState) (list : List Desc) (by : ℕ) → IsWord by → IsSound s → Each (IsPpiDesc s) list → IsSound (installed s list by)
installed_sound s list by word h each =
    let first = ppis_sound by list s word h each in
    let pairs = pairs_each s (offsets list) (descriptors s.dispatches) (offsets_each s list each) (entries_each s Dispatch s.dispatches h.dispatches) in
    pendings_sound by (install_pairs s list) (fold (with_ppi by) s list) word first.0 (pair_grows s (fold (with_ppi by) s list) first.1 (install_pairs s list) pairs)

pub reinstalled_sound : (s : StoreState) (old new : Desc) (by : ℕ) → IsWord by → IsSound s → IsDescriptorAt s Ppi new.offset → IsSound (reinstalled s old new by)
reinstalled_sound s old new by word h is =
    let pairs = pairs_each s (new.offset ∷ []) (descriptors s.dispatches) (is, tt) (entries_each s Dispatch s.dispatches h.dispatches) in
    let t = record s { ppis = renamed s.ppis old.offset new.offset } in
    pendings_sound by (reinstall_pairs s new) t word (renamed_sound s old.offset new.offset h is) (pair_grows s t (λ place body e. e) (reinstall_pairs s new) pairs)

-- the dispatch notifications among notifications
not_callback : (kind : DescKind) → kind ≢ Ppi → is_callback kind ≡ false → kind ≡ Dispatch
not_callback Ppi other e = absurd (other refl)
not_callback Callback other e = cc
not_callback Dispatch other e = refl

kept_dispatch : (s : StoreState) (place : ℕ) (rest : List ℕ) (b : Bool) → (b ≡ false → IsDescriptorAt s Dispatch place) → Each (IsDescriptorAt s Dispatch) rest → Each (IsDescriptorAt s Dispatch) (if not b then place ∷ rest else rest)
kept_dispatch s place rest true f h = h
kept_dispatch s place rest false f h = (f refl, h)

dispatches_each : (s : StoreState) (list : List Desc) → Each (IsNote s) list → Each (IsDescriptorAt s Dispatch) (new_dispatches s list)
dispatches_each s [] h = tt
dispatches_each s (d ∷ ds) h =
    kept_dispatch s d.offset (new_dispatches s ds) (is_callback (kind_at s d.offset))
    (λ e. let kind : is_callback h.0.0 ≡ false = sym (ap is_callback (kind_is s h.0.0 d.offset h.0.2)) ∙ e in
    subst (λ k. IsDescriptorAt s k d.offset) (not_callback h.0.0 h.0.1 kind) h.0.2)
    (dispatches_each s ds h.1)

pub notified_sound : (s : StoreState) (list : List Desc) (by : ℕ) → IsWord by → IsSound s → Each (IsNote s) list → IsSound (notified s list by)
notified_sound s list by word h each =
    let first = notes_sound by list s word h each in
    let pairs = pairs_each s (descriptors s.ppis) (new_dispatches s list) (entries_each s Ppi s.ppis h.ppis) (dispatches_each s list each) in
    pendings_sound by (notify_pairs s list) (fold (with_note by) s list) word first.0 (pair_grows s (fold (with_note by) s list) first.1 (notify_pairs s list) pairs)

-- by the tests of the services
ppi_only : (kind : DescKind) → is_ppi kind ≡ true → kind ≡ Ppi
ppi_only Ppi e = refl
ppi_only Callback e = cc
ppi_only Dispatch e = cc

desc_is : (s : StoreState) (d : Desc) → IsDesc s d → IsDescriptorAt s (kind_at s d.offset) d.offset
desc_is s d h = (h.0, h.1, rw h.1 refl)

pub ppi_desc : (s : StoreState) (d : Desc) → IsDesc s d → is_ppi (kind_at s d.offset) ≡ true → IsPpiDesc s d
ppi_desc s d h e = subst (λ k. IsDescriptorAt s k d.offset) (ppi_only (kind_at s d.offset) e) (desc_is s d h)

pub both_true : (a b : Bool) → (a && b) ≡ true → (a ≡ true) × (b ≡ true)
both_true true true e = (refl, refl)
both_true true false e = cc
both_true false b e = cc

pub ppi_descs : (s : StoreState) (list : List Desc) → Each (IsDesc s) list → list_all (λ d. is_ppi (kind_at s d.offset)) list ≡ true → Each (IsPpiDesc s) list
ppi_descs s [] h e = tt
ppi_descs s (d ∷ ds) h e =
    let both = both_true (is_ppi (kind_at s d.offset)) (list_all (λ x. is_ppi (kind_at s x.offset)) ds) e in
    (ppi_desc s d h.0 both.0, ppi_descs s ds h.1 both.1)

neither : (a b : Bool) → (a || b) ≡ false → (a ≡ false) × (b ≡ false)
neither false false e = (refl, refl)
neither false true e = cc
neither true b e = cc

not_ppi : (kind : DescKind) → is_ppi kind ≡ false → kind ≢ Ppi
not_ppi Ppi e same = cc
not_ppi Callback e same = cc
not_ppi Dispatch e same = cc

pub note_descs : (s : StoreState) (list : List Desc) → Each (IsDesc s) list → list_any (λ d. is_ppi (kind_at s d.offset)) list ≡ false → Each (IsNote s) list
note_descs s [] h e = tt
note_descs s (d ∷ ds) h e =
    let both = neither (is_ppi (kind_at s d.offset)) (list_any (λ x. is_ppi (kind_at s x.offset)) ds) e in
    ((kind_at s d.offset, not_ppi (kind_at s d.offset) both.0, desc_is s d h.0), note_descs s ds h.1 both.1)
