-- Behind an install the GUIDs of its descriptors are installed, and every other is as it was; behind a reinstall the new one's is, and every other but the old one's is as it was.
use Rattle.std.proofs.Common.{◌≡◌, ℕ, Bool, true, false, cond, List, [], ◌∷◌, ◌++◌, ◌∙◌, ap, sym, refl, Option, Some, None, map, ◌||◌, ◌&&◌, ◌==◌, arith, unwrap_or, fold, option_map}
use Rattle.std.specs.List.{list_any, list_all}
use Rattle.std.proofs.{lemmas.Bool.Decides.nat_tests, lemmas.List.map-append, lemmas.List.Folds.list_any-append}
use Rattle.pi_base.specs.{declared.guid.Guid.Guid, Guids.same_guid, Lists.Each}
use Rattle.store_model.specs.{declared.state.Body.Body, declared.state.Entry.Entry, declared.store_handle.Desc.Desc}
use Rattle.store_model.specs.declared.state.Body.TheVariants.{Bytes, Descriptor, Node, Allocation}
use Rattle.store_model.specs.declared.store_handle.DescKind.TheVariants.{Dispatch}
use Rattle.store_model.specs.StoreState.{StoreState, body_at, pool_of}
use Rattle.store_model.specs.Service.Descriptor.{guid_at, kind_at, is_ppi, descriptor_in, descriptors, offsets}
use Rattle.store_model.specs.Service.Install.{has_ppi, installed, install_pairs, reinstalled, reinstall_pairs, renamed, with_ppi, is_installed}
use Rattle.boot_model.proofs.ListFacts.{has_later}
use Rattle.boot_laws.proofs.{Bodies.added_grows, Later.pendings_ppis, Later.ppis_added, QuietServices.pendings_quiet}
use Rattle.boot_laws.specs.ChangedGuids.{is_among}
use Rattle.boot_laws.proofs.GuidLists.{among_places, or_left, or_right, same_self}
use Rattle.boot_laws.proofs.LastingGuids.{Lasts, HasDescriptor, has_in, has_lasts, by_places}

-- what every PPI names is there
abbrev pub AreThere : StoreState → Type 0
AreThere s = Each (HasDescriptor s) (descriptors s.ppis)

-- what is a PPI's is a descriptor
by_body : (s : StoreState) (place : ℕ) (o : Option Body) → body_at s place ≡ o → is_ppi (unwrap_or (option_map (λ d. d.kind) (descriptor_in o)) Dispatch) ≡ true → HasDescriptor s place
by_body s place None e h = cc
by_body s place (Some (Descriptor d)) e h = (d, e)
by_body s place (Some (Bytes bytes)) e h = cc
by_body s place (Some Node) e h = cc
by_body s place (Some (Allocation a)) e h = cc

pub ppi_is : (s : StoreState) (place : ℕ) → is_ppi (kind_at s place) ≡ true → HasDescriptor s place
ppi_is s place h = by_body s place (body_at s place) refl h

and_left : (a b : Bool) → (a && b) ≡ true → a ≡ true
and_left true b e = refl
and_left false b e = cc

and_right : (a b : Bool) → (a && b) ≡ true → b ≡ true
and_right true b e = e
and_right false b e = cc

pub ppis_are : (s : StoreState) (list : List Desc) → list_all (λ d. is_ppi (kind_at s d.offset)) list ≡ true → Each (HasDescriptor s) (offsets list)
ppis_are s [] h = tt
ppis_are s (d ∷ list) h = (ppi_is s d.offset (and_left (is_ppi (kind_at s d.offset)) (list_all (λ x. is_ppi (kind_at s x.offset)) list) h), ppis_are s list (and_right (is_ppi (kind_at s d.offset)) (list_all (λ x. is_ppi (kind_at s x.offset)) list) h))

-- installing leaves descriptors as they are
ppis_last : (by : ℕ) (list : List Desc) (s : StoreState) → Lasts s (fold (with_ppi by) s list)
ppis_last by [] s place d h = h
ppis_last by (x ∷ list) s place d h = ppis_last by list (with_ppi by s x) place d (added_grows s (with_ppi by s x) (pool_of Node) refl place (Descriptor d) h)

installed_lasts : (s : StoreState) (list : List Desc) (by : ℕ) → Lasts s (installed s list by)
installed_lasts s list by place d h = (pendings_quiet by (install_pairs s list) (fold (with_ppi by) s list)).lasts place d (ppis_last by list s place d h)

pub installed_has : (s : StoreState) (list : List Desc) (by : ℕ) (guid : Guid) → AreThere s → Each (HasDescriptor s) (offsets list)
    → has_ppi (installed s list by) guid ≡ (has_ppi s guid || is_among guid (map (guid_at s) (offsets list)))
installed_has s list by guid there each =
    let t : StoreState = installed s list by in
    let added = ppis_added by list s in
    let lasts : Lasts s t = installed_lasts s list by in
    let all : t.ppis ≡ s.ppis ++ added.0 = pendings_ppis by (install_pairs s list) (fold (with_ppi by) s list) ∙ added.1 in
    let places : descriptors t.ppis ≡ descriptors s.ppis ++ offsets list =
    ap descriptors all ∙ map-append (λ entry. entry.descriptor) s.ppis added.0 ∙ ap (λ xs. descriptors s.ppis ++ xs) added.2 in
    let old : has_in t guid (descriptors s.ppis) ≡ has_ppi s guid = has_lasts s t guid (descriptors s.ppis) lasts there ∙ sym (by_places s guid) in
    let new : has_in t guid (offsets list) ≡ is_among guid (map (guid_at s) (offsets list)) = has_lasts s t guid (offsets list) lasts each ∙ among_places s guid (offsets list) in
    by_places t guid ∙ ap (has_in t guid) places ∙ list_any-append (λ place. same_guid (guid_at t place) guid) (descriptors s.ppis) (offsets list)
    ∙ ap (λ b. b || has_in t guid (offsets list)) old ∙ ap (λ b. has_ppi s guid || b) new

-- an entry that is named anew
renamed_each : (s : StoreState) (entries : List Entry) (old new : ℕ) → Each (HasDescriptor s) (descriptors entries) → HasDescriptor s new → Each (HasDescriptor s) (descriptors (renamed entries old new))
renamed_each s [] old new each is = tt
renamed_each s (entry ∷ entries) old new each is = by (entry.descriptor == old) (renamed_each s entries old new each.1 is)
  where
    by : (b : Bool) → Each (HasDescriptor s) (descriptors (renamed entries old new)) → Each (HasDescriptor s) (descriptors (cond b (record entry { descriptor = new } ∷ entries) (entry ∷ renamed entries old new)))
    by true rest = (is, each.1)
    by false rest = (each.0, rest)

renamed_has : (s : StoreState) (guid : Guid) (entries : List Entry) (old new : ℕ) → same_guid (guid_at s old) guid ≡ false → same_guid (guid_at s new) guid ≡ false
    → has_in s guid (descriptors (renamed entries old new)) ≡ has_in s guid (descriptors entries)
renamed_has s guid [] old new not_old not_new = refl
renamed_has s guid (entry ∷ entries) old new not_old not_new = by (entry.descriptor == old) refl (renamed_has s guid entries old new not_old not_new)
  where
    by : (b : Bool) → (entry.descriptor == old) ≡ b → has_in s guid (descriptors (renamed entries old new)) ≡ has_in s guid (descriptors entries)
        → has_in s guid (descriptors (cond b (record entry { descriptor = new } ∷ entries) (entry ∷ renamed entries old new))) ≡ has_in s guid (descriptors (entry ∷ entries))
    by true e rest =
        let same : entry.descriptor ≡ old = grind (arith, nat_tests, e) in
        let own : same_guid (guid_at s entry.descriptor) guid ≡ false = ap (λ place. same_guid (guid_at s place) guid) same ∙ not_old in
        ap (λ b. b || has_in s guid (descriptors entries)) (not_new ∙ sym own)
    by false e rest = ap (λ more. same_guid (guid_at s entry.descriptor) guid || more) rest

renamed_there : (s : StoreState) (entries : List Entry) (old new : ℕ) → list_any (λ place. place == old) (descriptors entries) ≡ true → has_in s (guid_at s new) (descriptors (renamed entries old new)) ≡ true
renamed_there s [] old new h = cc
renamed_there s (entry ∷ entries) old new h = by (entry.descriptor == old) h (renamed_there s entries old new)
  where
    by : (b : Bool) → (b || list_any (λ place. place == old) (descriptors entries)) ≡ true → (list_any (λ place. place == old) (descriptors entries) ≡ true → has_in s (guid_at s new) (descriptors (renamed entries old new)) ≡ true)
        → has_in s (guid_at s new) (descriptors (cond b (record entry { descriptor = new } ∷ entries) (entry ∷ renamed entries old new))) ≡ true
    by true e rest = ap (λ b. b || has_in s (guid_at s new) (descriptors entries)) (same_self (guid_at s new))
    by false e rest = has_later (same_guid (guid_at s entry.descriptor) (guid_at s new)) (has_in s (guid_at s new) (descriptors (renamed entries old new))) (rest e)

-- the state behind a reinstall, by the descriptors before it
reinstalled_by : (s : StoreState) (old new : Desc) (by : ℕ) (guid : Guid) → AreThere s → HasDescriptor s new.offset
    → has_ppi (reinstalled s old new by) guid ≡ has_in s guid (descriptors (renamed s.ppis old.offset new.offset))
reinstalled_by s old new by guid there is =
    let t : StoreState = reinstalled s old new by in
    let named : StoreState = record s { ppis = renamed s.ppis old.offset new.offset } in
    let lasts : Lasts s t = (pendings_quiet by (reinstall_pairs s new) named).lasts in
    by_places t guid ∙ ap (λ entries. has_in t guid (descriptors entries)) (pendings_ppis by (reinstall_pairs s new) named)
    ∙ has_lasts s t guid (descriptors (renamed s.ppis old.offset new.offset)) lasts (renamed_each s s.ppis old.offset new.offset there is)

pub reinstalled_has : (s : StoreState) (old new : Desc) (by : ℕ) (guid : Guid) → AreThere s → HasDescriptor s new.offset
    → is_among guid (guid_at s old.offset ∷ guid_at s new.offset ∷ []) ≡ false → has_ppi (reinstalled s old new by) guid ≡ has_ppi s guid
reinstalled_has s old new by guid there is h =
    let not_old = or_left (same_guid (guid_at s old.offset) guid) (same_guid (guid_at s new.offset) guid || false) h in
    let not_new = or_left (same_guid (guid_at s new.offset) guid) false (or_right (same_guid (guid_at s old.offset) guid) (same_guid (guid_at s new.offset) guid || false) h) in
    reinstalled_by s old new by guid there is ∙ renamed_has s guid s.ppis old.offset new.offset not_old not_new ∙ sym (by_places s guid)

pub reinstalled_there : (s : StoreState) (old new : Desc) (by : ℕ) → AreThere s → HasDescriptor s new.offset → is_installed s old ≡ true → has_ppi (reinstalled s old new by) (guid_at s new.offset) ≡ true
reinstalled_there s old new by there is among = reinstalled_by s old new by (guid_at s new.offset) there is ∙ renamed_there s s.ppis old.offset new.offset among
