-- No service moves the store.
use Rattle.std.proofs.Common.{◌≡◌, ℕ, ◌*◌, Bool, true, false, cond, List, [], ◌∷◌, Option, Some, None, refl, ◌∙◌, Ok, Err, fold}
use Rattle.std.specs.Bool.{⊤}
use Rattle.pi_base.specs.{declared.guid.Guid.Guid, declared.known_guid.TheConstants.MEMORY_PPI}
use Rattle.hob_codec.specs.HobValue.{HobValue}
use Rattle.store_model.specs.{declared.state.TheConstants.CORE, declared.store_handle.DescKind.DescKind, declared.store_handle.Desc.Desc}
use Rattle.store_model.specs.declared.store_handle.DescKind.TheVariants.{Ppi, Callback, Dispatch}
use Rattle.store_model.specs.{declared.store_handle.Pool.Pool, declared.store_handle.Sweep.Sweep, declared.store_handle.GuidFrom.GuidFrom}
use Rattle.store_model.specs.{declared.store_handle.GuidFrom.TheVariants.Inline, declared.store_handle.StoreFault.StoreFault}
use Rattle.store_model.specs.{StoreState.StoreState, Service.Service, Service.Pool.pool, Service.Pool.store, Service.Hob.create_hob}
use Rattle.store_model.specs.Service.Descriptor.{desc, desc_of, guid_from, kind_at}
use Rattle.store_model.specs.Service.Install.{install, installed, install_pairs, with_ppi, with_pending, reinstall, reinstalled, reinstall_pairs, renamed, both_or_full, core_of, core_install}
use Rattle.store_model.specs.Service.Notify.{notify, notified, notify_pairs, with_note, with_note_of}
use Rattle.store_model.specs.Service.Memory.{set_memory, pages, early_pages, pages_taken}

-- where the service succeeds, the store is moved exactly where it was
abbrev pub KeepsMoved : {A : Type 0} → StoreState → Service A → Type 0
KeepsMoved s (Ok pair) = pair.1.moved ≡ s.moved
KeepsMoved s (Err fault) = ⊤

refused : {A : Type 0} (s : StoreState) (b : Bool) (fault : StoreFault) (service : Service A) → KeepsMoved s service → KeepsMoved s (cond b (Err fault) service)
refused s true fault service h = tt
refused s false fault service h = h

either : {A : Type 0} (s : StoreState) (b : Bool) (one other : Service A) → KeepsMoved s one → KeepsMoved s other → KeepsMoved s (cond b one other)
either s true one other h k = h
either s false one other h k = k

fold_moved : {A : Type 0} (f : StoreState → A → StoreState) → ((s : StoreState) (a : A) → (f s a).moved ≡ s.moved) → (xs : List A) (s : StoreState) → (fold f s xs).moved ≡ s.moved
fold_moved f h [] s = refl
fold_moved f h (x ∷ xs) s = fold_moved f h xs (f s x) ∙ h s x

pub pool_moved : (s : StoreState) (size : ℕ) → KeepsMoved s (pool s size)
pool_moved s size = search (refused)

pub desc_of_moved : (s : StoreState) (kind : DescKind) (number : ℕ) (guid : Option (Guid × Option ℕ)) → KeepsMoved s (desc_of s kind number guid)
desc_of_moved s kind number None = tt
desc_of_moved s kind number (Some pair) = search (refused)

pub desc_moved : (s : StoreState) (kind : DescKind) (guid : GuidFrom) (number : ℕ) → KeepsMoved s (desc s kind guid number)
desc_moved s kind guid number = desc_of_moved s kind number (guid_from s guid)

pub install_moved : (s : StoreState) (list : List Desc) (by : ℕ) → KeepsMoved s (install s list by)
install_moved s list by =
    let same : (installed s list by).moved ≡ s.moved = fold_moved (with_pending by) (λ t a. refl) (install_pairs s list) (fold (with_ppi by) s list) ∙ fold_moved (with_ppi by) (λ t a. refl) list s in
    search (refused, same)

note_moved : (kind : DescKind) (by : ℕ) (s : StoreState) (d : Desc) → (with_note_of kind by s d).moved ≡ s.moved
note_moved Callback by s d = refl
note_moved Ppi by s d = refl
note_moved Dispatch by s d = refl

pub notify_moved : (s : StoreState) (list : List Desc) (by : ℕ) → KeepsMoved s (notify s list by)
notify_moved s list by =
    let same : (notified s list by).moved ≡ s.moved =
    fold_moved (with_pending by) (λ t a. refl) (notify_pairs s list) (fold (with_note by) s list) ∙ fold_moved (with_note by) (λ t d. note_moved (kind_at t d.offset) by t d) list s in
    search (refused, same)

pub reinstall_moved : (s : StoreState) (old new : Desc) (by : ℕ) → KeepsMoved s (reinstall s old new by)
reinstall_moved s old new by =
    let same : (reinstalled s old new by).moved ≡ s.moved = fold_moved (with_pending by) (λ t a. refl) (reinstall_pairs s new) (record s { ppis = renamed s.ppis old.offset new.offset }) in
    search (refused, same)

pub hob_moved : (s : StoreState) (hob : HobValue) → KeepsMoved s (create_hob s hob)
hob_moved s hob = search (refused)

pub memory_moved : (s : StoreState) (begin len : ℕ) → KeepsMoved s (set_memory s begin len)
memory_moved s begin len = search (refused)

taken_moved : (s : StoreState) (memory_type len : ℕ) → KeepsMoved s (pages_taken s memory_type len)
taken_moved s memory_type len = refl

early_moved : (s : StoreState) (memory_type len : ℕ) → KeepsMoved s (early_pages s memory_type len)
early_moved s memory_type len = search (refused)

pub pages_moved : (s : StoreState) (memory_type count : ℕ) → KeepsMoved s (pages s memory_type count)
pages_moved s memory_type count =
    let late = refused s _ _ (pages_taken s memory_type (4096 * count)) (taken_moved s memory_type (4096 * count)) in
    either s s.moved _ (early_pages s memory_type (4096 * count)) late (early_moved s memory_type (4096 * count))

core_inner : (s made : StoreState) (service : Service Sweep) → made.moved ≡ s.moved → KeepsMoved made service → KeepsMoved s (both_or_full service)
core_inner s made (Ok pair) e h = h ∙ e
core_inner s made (Err fault) e h = tt

core_outer : (s : StoreState) (service : Service Desc) → KeepsMoved s service → KeepsMoved s (core_of service)
core_outer s (Ok (d, made)) h = core_inner s made (install made (d ∷ []) CORE) h (install_moved made (d ∷ []) CORE)
core_outer s (Err fault) h = tt

pub core_moved : (s : StoreState) → KeepsMoved s (core_install s)
core_moved s = core_outer s (desc s Ppi (Inline MEMORY_PPI) 0) (desc_moved s Ppi (Inline MEMORY_PPI) 0)

-- the same of a state that may be none
abbrev pub OptionMoved : StoreState → Option StoreState → Type 0
OptionMoved s None = ⊤
OptionMoved s (Some new) = new.moved ≡ s.moved

option_moved : (s new : StoreState) (b : Bool) → new.moved ≡ s.moved → OptionMoved s (cond b None (Some new))
option_moved s new true h = tt
option_moved s new false h = h

pub store_moved : (s : StoreState) (to : Pool) (at : ℕ) (bytes : List ℕ) → OptionMoved s (store s to at bytes)
store_moved s to at bytes = option_moved s _ _ refl
