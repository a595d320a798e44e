-- No action makes a notification of a module that has not started.
use Rattle.std.proofs.Common.{◌≡◌, ℕ, ◌+◌, ◌*◌, ◌/◌, ◌<◌, ◌==◌, Bool, true, false, cond, List, [], ◌∷◌, ◌++◌, length, replicate, arith, sym, subst, Option, Some, None, Ok, Err, fold, nat_lt}
use Rattle.std.specs.Bool.{⊤}
use Rattle.pi_base.specs.{declared.guid.Guid.Guid, Lists.Each}
use Rattle.act_code.specs.{Index.is_indexed, declared.action.Action.Action}
use Rattle.store_model.specs.{declared.state.Body.Body, declared.state.HobEntry.HobEntry, declared.store_handle.Desc.Desc}
use Rattle.store_model.specs.declared.state.Body.TheVariants.{Bytes, Descriptor, Node, Allocation}
use Rattle.store_model.specs.{declared.store_handle.DescKind.DescKind, declared.store_handle.GuidFrom.GuidFrom}
use Rattle.store_model.specs.declared.store_handle.DescKind.TheVariants.{Ppi, Callback, Dispatch}
use Rattle.store_model.specs.{declared.store_handle.Pool.Pool, declared.store_handle.StoreFault.StoreFault}
use Rattle.store_model.specs.{declared.store_handle.Sweep.Sweep, Service.Service, Service.Pool.pool, Service.Pool.written}
use Rattle.store_model.specs.StoreState.{StoreState, appended, end_place, hob_len, next_body, pool_of, rounded, with_body}
use Rattle.store_model.specs.Service.Descriptor.{desc, desc_of, guid_from, kind_at}
use Rattle.store_model.specs.Service.Install.{install, reinstall, installed, reinstalled, with_ppi, with_pending, install_pairs, install_sweep, reinstall_pairs, reinstall_sweep, renamed}
use Rattle.store_model.specs.Service.Notify.{notify, notified, with_note, with_note_of, notify_pairs, notify_sweep}
use Rattle.store_model.specs.Service.Hob.{create_hob, hob_entry}
use Rattle.store_model.specs.Service.Memory.{set_memory, pages, pages_taken, page_len, allocation_hob}
use Rattle.boot_model.specs.{declared.frame.Register.Register, PeiMachine.Frame, Registers.both}
use Rattle.boot_model.specs.PeiAction.{Effect, effect, desc_number, guid_arg, kind_number}
use Rattle.boot_model.proofs.ListFacts.{each_push}
use Rattle.boot_laws.specs.EffectForms.{EffectHas, RepliesHave}
use Rattle.boot_laws.proofs.EffectForms.{effect_has, given}
use Rattle.pei_core.specs.Needs.{IsArgument}
use Rattle.pei_core.proofs.Grammar.{block}
use Rattle.pei_core.specs.Started.{HasStarted, IsEntryOf, IsBodyOf}

abbrev pub AreHobsOf : List ℕ → List HobEntry → Type 0
AreHobsOf started hobs = Each (λ hob. IsBodyOf started hob.body) hobs

abbrev pub IsStoreOf : List ℕ → StoreState → Type 0
IsStoreOf started s = AreHobsOf started s.hobs

-- a HOB is changed
changed_at : (started : List ℕ) (change : Body → Body) (b : Bool) (hob : HobEntry) → ((body : Body) → IsBodyOf started body → IsBodyOf started (change body))
    → IsBodyOf started hob.body → IsBodyOf started (cond b (record hob { body = change hob.body }) hob).body
changed_at started change true hob keeps is = keeps hob.body is
changed_at started change false hob keeps is = is

pub changed_keeps : (started : List ℕ) (change : Body → Body) (hobs : List HobEntry) (at place : ℕ) → ((body : Body) → IsBodyOf started body → IsBodyOf started (change body))
    → AreHobsOf started hobs → AreHobsOf started (with_body change at hobs place)
changed_keeps started change [] at place keeps each = tt
changed_keeps started change (hob ∷ hobs) at place keeps each =
    (changed_at started change (at + 8 == place) hob keeps each.0, changed_keeps started change hobs (at + hob_len hob) place keeps each.1)

written_is : (started : List ℕ) (at : ℕ) (bytes : List ℕ) (body : Body) → IsBodyOf started body → IsBodyOf started (written at bytes body)
written_is started at bytes (Bytes old) is = tt
written_is started at bytes (Descriptor d) is = is
written_is started at bytes Node is = tt
written_is started at bytes (Allocation a) is = tt

-- one item after the other
fold_keeps : {X : Type 0} (started : List ℕ) (f : StoreState → X → StoreState) (xs : List X) (s : StoreState)
    → ((t : StoreState) (x : X) → IsStoreOf started t → IsStoreOf started (f t x)) → IsStoreOf started s → IsStoreOf started (fold f s xs)
fold_keeps started f [] s keeps is = is
fold_keeps started f (x ∷ xs) s keeps is = fold_keeps started f xs (f s x) keeps (keeps s x is)

with_node_is : (started : List ℕ) (s : StoreState) → IsStoreOf started s → AreHobsOf started (s.hobs ++ pool_of Node ∷ [])
with_node_is started s is = each_push (λ hob. IsBodyOf started hob.body) s.hobs (pool_of Node) is tt

note_keeps : (started : List ℕ) (kind : DescKind) (by : ℕ) (s : StoreState) (d : Desc) → IsStoreOf started s → IsStoreOf started (with_note_of kind by s d)
note_keeps started Ppi by s d is = is
note_keeps started Callback by s d is = with_node_is started s is
note_keeps started Dispatch by s d is = with_node_is started s is

pending_keeps : (started : List ℕ) (by : ℕ) (pairs : List (ℕ × ℕ)) (s : StoreState) → IsStoreOf started s → IsStoreOf started (fold (with_pending by) s pairs)
pending_keeps started by pairs s is = fold_keeps started (with_pending by) pairs s (λ t pair k. with_node_is started t k) is

-- a service, where it answers
abbrev pub Keeps : {A : Type 0} → List ℕ → Service A → Type 0
Keeps started (Ok pair) = IsStoreOf started pair.1
Keeps started (Err fault) = ⊤

unless : {A : Type 0} (started : List ℕ) (b : Bool) (fault : StoreFault) (service : Service A) → Keeps started service → Keeps started (cond b (Err fault) service)
unless started true fault service k = tt
unless started false fault service k = k

either : {A : Type 0} (started : List ℕ) (b : Bool) (one other : Service A) → Keeps started one → Keeps started other → Keeps started (cond b one other)
either started true one other k h = k
either started false one other k h = h

pool_keeps : (started : List ℕ) (s : StoreState) (size : ℕ) → IsStoreOf started s → Keeps started (pool s size)
pool_keeps started s size is =
    let hob : HobEntry = pool_of (Bytes (replicate (rounded size) 0)) in
    let made : Pool = record { offset = next_body s; size = size } in
    let own : Keeps {A = Pool} started (Ok (made, appended s hob)) = each_push (λ other. IsBodyOf started other.body) s.hobs hob is tt in
    search (unless, own)

pub desc_keeps : (started : List ℕ) (s : StoreState) (kind : DescKind) (number : ℕ) (from : Option (Guid × Option ℕ)) → IsEntryOf started kind number → IsStoreOf started s → Keeps started (desc_of s kind number from)
desc_keeps started s kind number None of is = tt
desc_keeps started s kind number (Some (guid, stands)) of is =
    let hob : HobEntry = pool_of (Descriptor (record { kind = kind; guid = guid; stands = stands; number = number })) in
    let made : Desc = record { offset = next_body s } in
    let own : Keeps {A = Desc} started (Ok (made, appended s hob)) = each_push (λ other. IsBodyOf started other.body) s.hobs hob is of in
    search (unless, own)

pub install_keeps : (started : List ℕ) (s : StoreState) (list : List Desc) (by : ℕ) → IsStoreOf started s → Keeps started (install s list by)
install_keeps started s list by is =
    let own : Keeps {A = Sweep} started (Ok (install_sweep s list, installed s list by)) =
    pending_keeps started by (install_pairs s list) (fold (with_ppi by) s list) (fold_keeps started (with_ppi by) list s (λ t d k. with_node_is started t k) is) in
    search (unless, own)

reinstall_keeps : (started : List ℕ) (s : StoreState) (old new : Desc) (by : ℕ) → IsStoreOf started s → Keeps started (reinstall s old new by)
reinstall_keeps started s old new by is =
    let own : Keeps {A = Sweep} started (Ok (reinstall_sweep s old, reinstalled s old new by)) =
    pending_keeps started by (reinstall_pairs s new) (record s { ppis = renamed s.ppis old.offset new.offset }) is in
    search (unless, own)

notify_keeps : (started : List ℕ) (s : StoreState) (list : List Desc) (by : ℕ) → IsStoreOf started s → Keeps started (notify s list by)
notify_keeps started s list by is =
    let own : Keeps {A = Sweep} started (Ok (notify_sweep s list, notified s list by)) =
    pending_keeps started by (notify_pairs s list) (fold (with_note by) s list) (fold_keeps started (with_note by) list s (λ t d k. note_keeps started (kind_at t d.offset) by t d k) is) in
    search (unless, own)

hob_keeps : (started : List ℕ) (s : StoreState) (hob : _) → IsStoreOf started s → Keeps started (create_hob s hob)
hob_keeps started s hob is =
    let own : Keeps {A = ℕ} started (Ok (s.base + end_place s, appended s (hob_entry hob))) = each_push (λ other. IsBodyOf started other.body) s.hobs (hob_entry hob) is tt in
    search (unless, own)

memory_keeps : (started : List ℕ) (s : StoreState) (begin len : ℕ) → IsStoreOf started s → Keeps started (set_memory s begin len)
memory_keeps started s begin len is =
    let own : Keeps {A = Unit {0}} started (Ok (tt, record s { planned = Some (record { base = begin; len = len }) })) = is in
    search (unless, own)

taken_keeps : (started : List ℕ) (s : StoreState) (memory_type len : ℕ) → IsStoreOf started s → Keeps started (pages_taken s memory_type len)
taken_keeps started s memory_type len is = each_push (λ hob. IsBodyOf started hob.body) s.hobs (allocation_hob memory_type len (s.taken + len)) is tt

pages_keep : (started : List ℕ) (s : StoreState) (memory_type count : ℕ) → IsStoreOf started s → Keeps started (pages s memory_type count)
pages_keep started s memory_type count is =
    let own = taken_keeps started s memory_type (page_len * count) is in
    search (either, unless, own)

store_on : (started : List ℕ) (b : Bool) (s new : StoreState) (to : Pool) (at : ℕ) (bytes : List ℕ) → IsStoreOf started s
    → cond b None (Some (record s { hobs = with_body (written at bytes) 56 s.hobs to.offset })) ≡ Some new → IsStoreOf started new
store_on started true s new to at bytes is e = cc
store_on started false s new to at bytes is e =
    let same : (record s { hobs = with_body (written at bytes) 56 s.hobs to.offset }) ≡ new = cc in
    subst (λ t. IsStoreOf started t) same (changed_keeps started (written at bytes) s.hobs 56 to.offset (written_is started at bytes) is)

-- a module's own entry
entry_of : (number arg : ℕ) → arg < 64 → (number * 64 + arg) / 64 ≡ number
entry_of number arg lt = omega (arith, lt)

entry_is : (started : List ℕ) (number : ℕ) (registers : List Register) (kind : DescKind) (arg : ℕ) (from : Option GuidFrom) (a : GuidFrom × ℕ) → HasStarted started number → IsArgument kind arg
    → both from (desc_number number registers kind arg) ≡ Some a → IsEntryOf started kind a.1
entry_is started number registers Ppi arg from a of is e = tt
entry_is started number registers Callback arg None a of is e = cc
entry_is started number registers Callback arg (Some g) a of is e =
    let same : number * 64 + arg ≡ a.1 = cc in let own = entry_of number arg is in subst (λ n. HasStarted started (n / 64)) same (subst (HasStarted started) (sym own) of)
entry_is started number registers Dispatch arg None a of is e = cc
entry_is started number registers Dispatch arg (Some g) a of is e =
    let same : number * 64 + arg ≡ a.1 = cc in let own = entry_of number arg is in subst (λ n. HasStarted started (n / 64)) same (subst (HasStarted started) (sym own) of)

-- what an action leaves of the store
abbrev pub LeavesStore : List ℕ → Effect → Type 0
LeavesStore started does = EffectHas (λ reply. IsStoreOf started reply.store) (λ registers. ⊤) does

succeeds : {B : Type 0} (started : List ℕ) (service : Service B) (pair : B × StoreState) → Keeps started service → service ≡ Ok pair → IsStoreOf started pair.1
succeeds started service pair keeps e = subst (λ x. Keeps started x) e keeps

replies_leave : (started : List ℕ) (s : StoreState) (frame : Frame) → HasStarted started frame.module_number → IsStoreOf started s
    → RepliesHave s frame (λ action reply. is_indexed 64 action ≡ true → IsStoreOf started reply.store)
replies_leave started s frame of is = record {
  refused = λ action status other names. is;
  pool = λ r size made new e names. succeeds started (pool s size) (made, new) (pool_keeps started s size is) e;
  store = λ p offset bytes to new held e names. store_on started (nat_lt to.size (offset + length bytes)) s new to offset bytes is e;
  peek = λ v n bytes names. is;
  desc = λ d kind guid arg from made new e f names.
      let entry = entry_is started frame.module_number frame.registers (kind_number kind) arg (guid_arg frame.registers guid) from of (block kind arg _ names) e in
      succeeds started (desc s (kind_number kind) from.0 from.1) (made, new) (desc_keeps started s (kind_number kind) from.1 (guid_from s from.0) entry is) f;
  install = λ list found sweep new e f names. succeeds started (install s found frame.module_number) (sweep, new) (install_keeps started s found frame.module_number is) f;
  reinstall = λ old new pair sweep after e f names.
      succeeds started (reinstall s pair.0 pair.1 frame.module_number) (sweep, after) (reinstall_keeps started s pair.0 pair.1 frame.module_number is) f;
  notify = λ list found sweep new e f names. succeeds started (notify s found frame.module_number) (sweep, new) (notify_keeps started s found frame.module_number is) f;
  locate = λ d v guid instance found e names. is;
  hob = λ kind body hob address new e f names. succeeds started (create_hob s hob) (address, new) (hob_keeps started s hob is) f;
  memory = λ begin len span done new e f names. succeeds started (set_memory s span.0 span.1) (done, new) (memory_keeps started s span.0 span.1 is) f;
  pages = λ r memory_type count address new e names. succeeds started (pages s memory_type count) (address, new) (pages_keep started s memory_type count is) e;
  mode = λ r names. is;
  set_mode = λ form r mode small names. is;
}

pub action_leaves : (started : List ℕ) (s : StoreState) (frame : Frame) (action : Action) → is_indexed 64 action ≡ true → HasStarted started frame.module_number → IsStoreOf started s → LeavesStore started (effect s frame action)
action_leaves started s frame action names of is =
    given (λ reply. IsStoreOf started reply.store) (λ registers. ⊤) (effect s frame action) names
    (effect_has s frame (λ own reply. is_indexed 64 own ≡ true → IsStoreOf started reply.store) (λ own registers. is_indexed 64 own ≡ true → ⊤) (record { same = λ own names. tt; set = λ r n names. tt; add = λ r n sum e names. tt; addr = λ v x offset address e names. tt }) (replies_leave started s frame of is) action)
