-- The row of the core's call: the descriptor and the PPI of permanent memory.
use Rattle.std.proofs.Common.{◌≡◌, ◌∙◌, ◌≤◌, ◌<◌, ◌+◌, ℕ, Bool, true, false, cond, List, [], ◌∷◌, ◌++◌, length, Some, None, Ok, Err, ap, refl, sym, subst, arith, true≢false, nat_lt, not, map, filter}
use Rattle.std.specs.List.{list_all}
use Rattle.std.proofs.lemmas.Bool.Decides.{nat_tests}
use Rattle.pi_base.specs.{declared.guid.Guid.Guid, Guids.same_guid, Lists.Each, declared.known_guid.TheConstants.MEMORY_PPI}
use Rattle.store_model.specs.{declared.state.TheConstants.CORE, declared.state.Body.TheVariants.Descriptor}
use Rattle.store_model.specs.{declared.state.DescriptorBody.DescriptorBody, declared.state.Entry.Entry, declared.store_handle.Desc.Desc}
use Rattle.store_model.specs.declared.store_handle.DescKind.TheVariants.{Ppi, Dispatch}
use Rattle.store_model.specs.{declared.store_handle.EntryTold.EntryTold, declared.store_handle.EntryList.TheVariants.Dispatches}
use Rattle.store_model.specs.{declared.store_handle.GuidFrom.TheVariants.Inline, declared.store_handle.StoreFault.StoreFault}
use Rattle.store_model.specs.declared.store_handle.StoreFault.TheVariants as F
use Rattle.store_model.specs.{declared.store_handle.Sweep.Sweep, Service.Reading.entry_told, Service.Reading.told_of}
use Rattle.store_model.specs.StoreState.{StoreState, appended, body_at, free, next_body, pool_of}
use Rattle.store_model.specs.StateFacts.{IsDesc, IsEntry, IsStoreState}
use Rattle.store_model.specs.Service.{Answers, Service, in_room, unless_bad}
use Rattle.store_model.specs.Service.Descriptor.{desc, descriptors, guid_at, is_ppi, kind_at}
use Rattle.store_model.specs.Service.Install.{both_or_full, core_install, core_of, install, install_pairs, install_sweep, installed, node_need, pairs_of}
use Rattle.store_laws.specs.{Bodies.BodiesStay, Bodies.IsGrown, Steps.IsStep, Steps.StepsKeepFacts}
use Rattle.pei_heap.proofs.NewDescriptors.{new_step}
use Rattle.heap_store.proofs.HandedIn.{guid_is, kind_is}

-- the descriptor, and the state with it
abbrev pub core_body : DescriptorBody
core_body = record { kind = Ppi; guid = MEMORY_PPI; stands = None; number = 0 }

abbrev pub core_made : StoreState → StoreState
core_made s = appended s (pool_of (Descriptor core_body))

abbrev pub core_desc : StoreState → Desc
core_desc s = record { offset = next_body s }

-- it is made where it has room
pub desc_made : (s : StoreState) → 48 ≤ free s → desc s Ppi (Inline MEMORY_PPI) 0 ≡ Ok (core_desc s, core_made s)
desc_made s room = let t : nat_lt (free s) 48 ≡ false = grind (arith, nat_tests, room) in ap (λ b. cond b (Err F.Full) (Ok (core_desc s, core_made s))) t

desc_full : (s : StoreState) → nat_lt (free s) 48 ≡ true → desc s Ppi (Inline MEMORY_PPI) 0 ≡ Err F.Full
desc_full s t = ap (λ b. cond b (Err F.Full) (Ok (core_desc s, core_made s))) t

core_there : (s : StoreState) → BodiesStay → body_at (core_made s) (next_body s) ≡ Some (Descriptor core_body)
core_there s law = law.new s (pool_of (Descriptor core_body))

pub core_is_desc : (s : StoreState) → BodiesStay → IsDesc (core_made s) (core_desc s)
core_is_desc s law = (core_body, core_there s law)

core_kind : (s : StoreState) → BodiesStay → kind_at (core_made s) (next_body s) ≡ Ppi
core_kind s law = kind_is (core_made s) Ppi (next_body s) (core_body, core_there s law, refl)

pub core_step : (s : StoreState) → StepsKeepFacts → IsStoreState s → 48 ≤ free s → IsStep s (core_made s) 48
core_step s law h room = new_step s core_body law h (record { guid = refl; number = grind arith }) room

-- the pairs of its PPI are the dispatch notifications of its GUID
len_by : {A B : Type 0} (a b : Bool) (x : A) (y : B) (xs : List A) (ys : List B) → a ≡ b → length xs ≡ length ys → length (cond a (x ∷ xs) xs) ≡ length (cond b (y ∷ ys) ys)
len_by true true x y xs ys t e = omega (arith, e)
len_by true false x y xs ys t e = absurd (true≢false t)
len_by false true x y xs ys t e = absurd (true≢false (sym t))
len_by false false x y xs ys t e = e

append_none : {A : Type 0} (xs : List A) → xs ++ [] ≡ xs
append_none [] = refl
append_none (x ∷ xs) = ap (λ ys. x ∷ ys) (append_none xs)

map_len : {A B : Type 0} (f : A → B) (xs : List A) → length (map f xs) ≡ length xs
map_len f [] = refl
map_len f (x ∷ xs) = let e = map_len f xs in omega (arith, e)

told_len : (s t : StoreState) (guid : Guid) (here : Guid) (entries : List Entry) → guid ≡ here → IsGrown s t → Each (IsEntry s Dispatch) entries
    → length (filter (λ note. same_guid here (guid_at t note)) (descriptors entries)) ≡ length (filter (λ (told : EntryTold). same_guid guid told.guid) (map (entry_told s) entries))
told_len s t guid here [] g grown h = refl
told_len s t guid here (entry ∷ entries) g grown h =
    let d = h.0.1.0 in
    let at = h.0.1.1 in
    let same : guid_at t entry.descriptor ≡ guid_at s entry.descriptor = guid_is t entry.descriptor d (grown entry.descriptor (Descriptor d) at) ∙ sym (guid_is s entry.descriptor d at) in
    let test : same_guid here (guid_at t entry.descriptor) ≡ same_guid guid (guid_at s entry.descriptor) = ap (same_guid here) same ∙ ap (λ x. same_guid x (guid_at s entry.descriptor)) (sym g) in
    len_by (same_guid here (guid_at t entry.descriptor)) (same_guid guid (guid_at s entry.descriptor)) entry.descriptor (entry_told s entry) _ _ test (told_len s t guid here entries g grown h.1)

row_len : (s : StoreState) (ppi : ℕ) (notes : List ℕ) → length (pairs_of s (ppi ∷ []) notes) ≡ length (filter (λ note. same_guid (guid_at s ppi) (guid_at s note)) notes)
row_len s ppi notes =
    let kept = filter (λ note. same_guid (guid_at s ppi) (guid_at s note)) notes in
    let pair : ℕ → ℕ × ℕ = λ note. (ppi, note) in
    let row : List (ℕ × ℕ) = map pair kept in
    ap (λ (xs : List (ℕ × ℕ)). length xs) (append_none row) ∙ map_len pair kept

pub core_pairs : (s : StoreState) (count : ℕ) → BodiesStay → IsStoreState s → count ≡ length (filter (λ (told : EntryTold). same_guid MEMORY_PPI told.guid) (told_of s Dispatches))
    → length (install_pairs (core_made s) (core_desc s ∷ [])) ≡ count
core_pairs s count law h e =
    let t = core_made s in
    let guid : guid_at t (next_body s) ≡ MEMORY_PPI = guid_is t (next_body s) core_body (core_there s law) in
    row_len t (next_body s) (descriptors s.dispatches) ∙ told_len s t MEMORY_PPI (guid_at t (next_body s)) s.dispatches (sym guid) (law.grown s (pool_of (Descriptor core_body))) h.dispatches ∙ sym e

-- both parts
full_by : (bad : Bool) → both_or_full (unless_bad bad (Err F.Full)) ≡ Err F.Full
full_by true = refl
full_by false = refl

none_by : (s : StoreState) (need : ℕ) (full : Bool) → nat_lt (free s) 48 ≡ full → BodiesStay → StepsKeepFacts → IsStoreState s → need ≡ node_need 1 + node_need (length (install_pairs (core_made s) (core_desc s ∷ [])))
    → nat_lt (free s) (48 + need) ≡ true → core_install s ≡ Err F.Full
none_by s need true t bodies steps h n room = ap core_of (desc_full s t)
none_by s need false t bodies steps h n room =
    let enough : 48 ≤ free s = grind (arith, nat_tests, t) in
    let made = core_made s in
    let list : List Desc = core_desc s ∷ [] in
    let left = (core_step s steps h enough).free_is in
    let less : free s < 48 + need = grind (arith, nat_tests, room) in
    let full : nat_lt (free made) (node_need 1 + node_need (length (install_pairs made list))) ≡ true = grind (arith, nat_tests, left, less, n) in
    let answer : Service Sweep = Ok (install_sweep made list, installed made list CORE) in
    let bad = not (list_all (λ d. is_ppi (kind_at made d.offset)) list) in
    let second : install made list CORE ≡ unless_bad bad (Err F.Full) = ap (λ b. unless_bad bad (cond b (Err F.Full) answer)) full in
    ap core_of (desc_made s enough) ∙ ap both_or_full second ∙ full_by bad

pub core_full : (s : StoreState) (count : ℕ) → BodiesStay → StepsKeepFacts → IsStoreState s → count ≡ length (filter (λ (told : EntryTold). same_guid MEMORY_PPI told.guid) (told_of s Dispatches))
    → nat_lt (free s) (48 + (node_need 1 + node_need count)) ≡ true → core_install s ≡ Err F.Full
core_full s count bodies steps h e room =
    none_by s (node_need 1 + node_need count) (nat_lt (free s) 48) refl bodies steps h (ap (λ n. node_need 1 + node_need n) (sym (core_pairs s count bodies h e))) room

pub core_enough : (s : StoreState) (count : ℕ) → nat_lt (free s) (48 + (node_need 1 + node_need count)) ≡ false → 48 ≤ free s
core_enough s count room = grind (arith, nat_tests, room)

-- the PPI is installed where both have room
pub core_installs : (s : StoreState) (count : ℕ) → BodiesStay → StepsKeepFacts → IsStoreState s → count ≡ length (filter (λ (told : EntryTold). same_guid MEMORY_PPI told.guid) (told_of s Dispatches))
    → nat_lt (free s) (48 + (node_need 1 + node_need count)) ≡ false
    → install (core_made s) (core_desc s ∷ []) CORE ≡ Ok (install_sweep (core_made s) (core_desc s ∷ []), installed (core_made s) (core_desc s ∷ []) CORE)
core_installs s count bodies steps h e room =
    let made = core_made s in
    let list : List Desc = core_desc s ∷ [] in
    let pairs = core_pairs s count bodies h e in
    let enough = core_enough s count room in
    let left = (core_step s steps h enough).free_is in
    let most : 48 + (node_need 1 + node_need count) ≤ free s = grind (arith, nat_tests, room) in
    let fits : nat_lt (free made) (node_need 1 + node_need (length (install_pairs made list))) ≡ false = grind (arith, nat_tests, left, most, pairs) in
    let answer : Service Sweep = Ok (install_sweep made list, installed made list CORE) in
    let need = node_need 1 + node_need (length (install_pairs made list)) in
    ap (λ k. unless_bad (not (list_all (λ (d : Bool). d) (is_ppi k ∷ []))) (in_room made need answer)) (core_kind s bodies) ∙ ap (λ b. cond b (Err F.Full) answer) fits

-- a call that is not refused has no fault
pub no_fault : {A : Type 0} (service : Service A) (answer : A) (old t new : StoreState) (fault : StoreFault) → service ≡ Ok (answer, t) → Answers false service old (Err fault) new → ⊥
no_fault service answer old t new F.Full e out = let bad : Err F.Full ≡ Ok (answer, t) = sym out.0 ∙ e in cc
no_fault service answer old t new F.Bad e out = let bad : Err F.Bad ≡ Ok (answer, t) = sym out.0 ∙ e in cc
no_fault service answer old t new F.Missing e out = let bad : Err F.Missing ≡ Ok (answer, t) = sym out.0 ∙ e in cc
no_fault service answer old t new F.NotYet e out = let bad : Err F.NotYet ≡ Ok (answer, t) = sym out.0 ∙ e in cc
no_fault service answer old t new F.Memory e out = true≢false (sym out.0)

-- the descriptor that was made is that one
pub made_is : (s t : StoreState) (d : Desc) → 48 ≤ free s → desc s Ppi (Inline MEMORY_PPI) 0 ≡ Ok (d, t) → (core_desc s ≡ d) × (core_made s ≡ t)
made_is s t d room e =
    let ours : Desc × StoreState = (core_desc s, core_made s) in
    let told : Desc × StoreState = (d, t) in
    let both : Ok ours ≡ Ok told = sym (desc_made s room) ∙ e in
    let same : ours ≡ told = cc in
    (ap (λ p. p.0) same, ap (λ p. p.1) same)

pub core_row : (s t u : StoreState) (d : Desc) (sweep : Sweep) → desc s Ppi (Inline MEMORY_PPI) 0 ≡ Ok (d, t) → install t (d ∷ []) CORE ≡ Ok (sweep, u) → core_install s ≡ Ok (sweep, u)
core_row s t u d sweep first second = ap core_of first ∙ ap both_or_full second

pub core_descs : (s t : StoreState) (d : Desc) → BodiesStay → 48 ≤ free s → desc s Ppi (Inline MEMORY_PPI) 0 ≡ Ok (d, t) → Each (IsDesc t) (d ∷ [])
core_descs s t d law room e =
    let is = made_is s t d room e in
    let here : IsDesc (core_made s) d = subst (IsDesc (core_made s)) is.0 (core_is_desc s law) in
    (subst (λ x. IsDesc x d) is.1 here, tt)

-- and installing it is not refused
pub core_second : (s t : StoreState) (d : Desc) (count : ℕ) → BodiesStay → StepsKeepFacts → IsStoreState s → count ≡ length (filter (λ (told : EntryTold). same_guid MEMORY_PPI told.guid) (told_of s Dispatches))
    → nat_lt (free s) (48 + (node_need 1 + node_need count)) ≡ false → desc s Ppi (Inline MEMORY_PPI) 0 ≡ Ok (d, t) → (sweep : Sweep) × (u : StoreState) × (install t (d ∷ []) CORE ≡ Ok (sweep, u))
core_second s t d count bodies steps h e room first =
    let is = made_is s t d (core_enough s count room) first in
    (_, _, ap (λ x. install t (x ∷ []) CORE) (sym is.0) ∙ ap (λ x. install x (core_desc s ∷ []) CORE) (sym is.1) ∙ core_installs s count bodies steps h e room)
