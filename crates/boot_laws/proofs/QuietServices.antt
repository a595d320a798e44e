-- The services that install nothing leave the descriptors and the PPIs as they are.
use Rattle.std.proofs.Common.{◌≡◌, ◌≢◌, ℕ, ◌+◌, ◌*◌, ◌≤◌, Bool, true, false, cond, List, [], ◌∷◌, ◌∙◌, refl, subst, Option, Some, None, Ok, Err, length, arith, fold, nat_lt, replicate}
use Rattle.std.specs.Bool.{⊤}
use Rattle.std.proofs.lemmas.Bool.Decides.{nat_tests}
use Rattle.pi_base.specs.{declared.guid.Guid.Guid, Lists.Each}
use Rattle.hob_codec.specs.HobValue.{HobValue}
use Rattle.store_model.specs.declared.state.Body.TheVariants.{Bytes, Descriptor, Node}
use Rattle.store_model.specs.{declared.state.Pending.Pending, declared.store_handle.DescKind.DescKind, declared.store_handle.Desc.Desc}
use Rattle.store_model.specs.declared.store_handle.DescKind.TheVariants.{Ppi, Callback, Dispatch}
use Rattle.store_model.specs.{declared.store_handle.Firing.Firing, declared.store_handle.GuidFrom.GuidFrom, declared.store_handle.Pool.Pool}
use Rattle.store_model.specs.{declared.store_handle.StoreFault.StoreFault, declared.state.HobEntry.HobEntry, Service.Service}
use Rattle.store_model.specs.StoreState.{StoreState, body_at, pool_of, rounded, appended}
use Rattle.store_model.specs.StateFacts.{IsPending, IsPool, IsStoreState}
use Rattle.store_model.specs.Service.Pool.{pool, store, written}
use Rattle.store_model.specs.Service.Descriptor.{desc, desc_of, guid_from, kind_at}
use Rattle.store_model.specs.{Service.Install.with_pending, Service.Hob.create_hob, Service.Hob.hob_entry}
use Rattle.store_model.specs.Service.Notify.{notify, notified, notify_pairs, with_note, with_note_of}
use Rattle.store_model.specs.Service.Memory.{set_memory, pages, early_pages, pages_taken, with_pages, allocation_hob}
use Rattle.store_model.specs.Service.Queue.{queue_pop, popped, zeroed}
use Rattle.store_laws.proofs.{Bodies.elsewhere, Changed.written_len}
use Rattle.boot_laws.proofs.Bodies.{changed}
use Rattle.boot_laws.proofs.LastingGuids.{IsQuiet, quiet_self, quiet_then, quiet_added}

-- where the service succeeds
abbrev pub KeepsQuiet : {A : Type 0} → StoreState → Service A → Type 0
KeepsQuiet s (Ok pair) = IsQuiet s pair.1
KeepsQuiet s (Err fault) = ⊤

refused : {A : Type 0} (s : StoreState) (b : Bool) (fault : StoreFault) (service : Service A) → KeepsQuiet s service → KeepsQuiet s (cond b (Err fault) service)
refused s true fault service h = tt
refused s false fault service h = h

either : {A : Type 0} (s : StoreState) (b : Bool) (one other : Service A) → KeepsQuiet s one → KeepsQuiet s other → KeepsQuiet s (cond b one other)
either s true one other h k = h
either s false one other h k = k

fold_quiet : {A : Type 0} (f : StoreState → A → StoreState) → ((s : StoreState) (a : A) → IsQuiet s (f s a)) → (xs : List A) (s : StoreState) → IsQuiet s (fold f s xs)
fold_quiet f h [] s = quiet_self s
fold_quiet f h (x ∷ xs) s = quiet_then s (f s x) (fold f (f s x) xs) (h s x) (fold_quiet f h xs (f s x))

pub pool_quiet : (s : StoreState) (size : ℕ) → KeepsQuiet s (pool s size)
pool_quiet s size =
    let zeros : List ℕ = replicate (rounded size) 0 in
    let same : IsQuiet s (appended s (pool_of (Bytes zeros))) = quiet_added s (appended s (pool_of (Bytes zeros))) (pool_of (Bytes zeros)) refl refl in
    search (refused, same)

desc_of_quiet : (s : StoreState) (kind : DescKind) (number : ℕ) (guid : Option (Guid × Option ℕ)) → KeepsQuiet s (desc_of s kind number guid)
desc_of_quiet s kind number None = tt
desc_of_quiet s kind number (Some (guid, stands)) =
    let hob : HobEntry = pool_of (Descriptor (record { kind = kind; guid = guid; stands = stands; number = number })) in
    let same : IsQuiet s (appended s hob) = quiet_added s (appended s hob) hob refl refl in
    search (refused, same)

pub desc_quiet : (s : StoreState) (kind : DescKind) (guid : GuidFrom) (number : ℕ) → KeepsQuiet s (desc s kind guid number)
desc_quiet s kind guid number = desc_of_quiet s kind number (guid_from s guid)

pub pending_quiet : (by : ℕ) (s : StoreState) (pair : ℕ × ℕ) → IsQuiet s (with_pending by s pair)
pending_quiet by s pair = quiet_added s (with_pending by s pair) (pool_of Node) refl refl

pub pendings_quiet : (by : ℕ) (pairs : List (ℕ × ℕ)) (s : StoreState) → IsQuiet s (fold (with_pending by) s pairs)
pendings_quiet by pairs s = fold_quiet (with_pending by) (pending_quiet by) pairs s

note_quiet : (kind : DescKind) (by : ℕ) (s : StoreState) (d : Desc) → IsQuiet s (with_note_of kind by s d)
note_quiet Ppi by s d = quiet_self s
note_quiet Callback by s d = quiet_added s (with_note_of Callback by s d) (pool_of Node) refl refl
note_quiet Dispatch by s d = quiet_added s (with_note_of Dispatch by s d) (pool_of Node) refl refl

pub notify_quiet : (s : StoreState) (list : List Desc) (by : ℕ) → KeepsQuiet s (notify s list by)
notify_quiet s list by =
    let notes : StoreState = fold (with_note by) s list in
    let same : IsQuiet s (notified s list by) =
    quiet_then s notes (notified s list by) (fold_quiet (with_note by) (λ t d. note_quiet (kind_at t d.offset) by t d) list s) (pendings_quiet by (notify_pairs s list) notes) in
    search (refused, same)

pub hob_quiet : (s : StoreState) (hob : HobValue) → KeepsQuiet s (create_hob s hob)
hob_quiet s hob =
    let same : IsQuiet s (appended s (hob_entry hob)) = quiet_added s (appended s (hob_entry hob)) (hob_entry hob) refl refl in
    search (refused, same)

pub memory_quiet : (s : StoreState) (begin len : ℕ) → KeepsQuiet s (set_memory s begin len)
memory_quiet s begin len =
    let same : IsQuiet s (record s { planned = Some (record { base = begin; len = len }) }) = record { lasts = λ place d h. h; ppis = refl } in
    search (refused, same)

taken_quiet : (s : StoreState) (memory_type len : ℕ) → KeepsQuiet s (pages_taken s memory_type len)
taken_quiet s memory_type len = quiet_added s (with_pages s memory_type len) (allocation_hob memory_type len (s.taken + len)) refl refl

early_quiet : (s : StoreState) (memory_type len : ℕ) → KeepsQuiet s (early_pages s memory_type len)
early_quiet s memory_type len = let same = taken_quiet s memory_type len in search (refused, same)

pub pages_quiet : (s : StoreState) (memory_type count : ℕ) → KeepsQuiet s (pages s memory_type count)
pages_quiet s memory_type count =
    let late = refused s _ _ (pages_taken s memory_type (4096 * count)) (taken_quiet s memory_type (4096 * count)) in
    either s s.moved _ (early_pages s memory_type (4096 * count)) late (early_quiet s memory_type (4096 * count))

-- bytes that are written into a pool
written_quiet : (s : StoreState) (to : Pool) (at : ℕ) (bytes : List ℕ) → IsPool s to → at + length bytes ≤ to.size → IsQuiet s (changed s to.offset at bytes)
written_quiet s to at bytes is fits = record {
  lasts = λ place d h.
      let other : place ≢ to.offset = λ same. let own : body_at s to.offset ≡ Some (Descriptor d) = subst (λ n. body_at s n ≡ Some (Descriptor d)) same h in let twice = is.1 in cc in
      elsewhere (written at bytes) s.hobs 56 to.offset place (Bytes is.0) is.1 (written_len at bytes is.0 (omega (arith, fits, is.2))) other ∙ h;
  ppis = refl;
}

-- the same of a state that may be none
abbrev pub OptionQuiet : StoreState → Option StoreState → Type 0
OptionQuiet s None = ⊤
OptionQuiet s (Some new) = IsQuiet s new

store_on : (s : StoreState) (to : Pool) (at : ℕ) (bytes : List ℕ) (b : Bool) → nat_lt to.size (at + length bytes) ≡ b → IsPool s to → OptionQuiet s (cond b None (Some (changed s to.offset at bytes)))
store_on s to at bytes true e is = tt
store_on s to at bytes false e is = let fits : at + length bytes ≤ to.size = grind (arith, nat_tests, e) in written_quiet s to at bytes is fits

pub store_quiet : (s : StoreState) (to : Pool) (at : ℕ) (bytes : List ℕ) → IsPool s to → OptionQuiet s (store s to at bytes)
store_quiet s to at bytes is = store_on s to at bytes (nat_lt to.size (at + length bytes)) refl is

-- a queued pair that leaves
abbrev pub PopQuiet : StoreState → Option (Firing × StoreState) → Type 0
PopQuiet s None = ⊤
PopQuiet s (Some pair) = IsQuiet s pair.1

popped_quiet : (s : StoreState) (pendings : List Pending) → Each (IsPending s) pendings → PopQuiet s (popped s pendings)
popped_quiet s [] each = tt
popped_quiet s (first ∷ rest) each = record {
  lasts = λ place d h.
      let node : body_at s first.node ≡ Some Node = each.0.0 in
      let other : place ≢ first.node = λ same. let own : body_at s first.node ≡ Some (Descriptor d) = subst (λ n. body_at s n ≡ Some (Descriptor d)) same h in cc in
      elsewhere zeroed s.hobs 56 first.node place Node node refl other ∙ h;
  ppis = refl;
}

pub pop_quiet : (s : StoreState) → IsStoreState s → PopQuiet s (queue_pop s)
pop_quiet s facts = popped_quiet s s.pendings facts.pendings
