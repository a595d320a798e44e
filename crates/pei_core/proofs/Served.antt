-- What a script is told of a service's answer is the reply of the machine.
use Rattle.std.proofs.Common.{◌≡◌, Bool, ℕ, List, [], ◌+◌, ◌≤◌, refl, ap, sym, subst, ◌∙◌, Option, Some, None, Result, Ok, Err, slice_set, option_and_then}
use Rattle.pi_base.specs.declared.memory.OutOfMemory.{OutOfMemory}
use Rattle.pi_base.specs.declared.word.Word.TheVariants.{InvalidParameter, NotFound}
use Rattle.boot_model.specs.{PeiMachine.Frame, declared.frame.Register.Register, declared.line.CallName.CallName, declared.line.Extra.Extra}
use Rattle.boot_model.specs.declared.line.CallName.TheVariants as C
use Rattle.boot_model.specs.declared.line.Extra.TheVariants as X
use Rattle.store_model.specs.{declared.store_handle.Desc.Desc, declared.store_handle.Pool.Pool, declared.store_handle.Sweep.Sweep}
use Rattle.store_model.specs.{declared.store_handle.StoreFault.StoreFault, MemoryReading.bytes_at}
use Rattle.store_model.specs.declared.store_handle.StoreFault.TheVariants as F
use Rattle.store_model.specs.{StoreState.StoreState, StoreState.end_place, Service.Service, Service.Answers, Service.Descriptor.offsets}
use Rattle.store_model.specs.Service.Pool.{store}
use Rattle.boot_model.specs.PeiAction.{Effect, Reply, Called, answer_reply, call_where, peek_reply, refusal, reply_where, status_of, store_reply}
use Rattle.boot_model.specs.PeiAction as P
use Rattle.phase_parts.specs.{declared.registers.Writes.Writes, declared.reading.Answer.Answer, Peeked.told_at, Peeked.told_bytes}
use Rattle.phase_parts.specs.declared.registers.Writes.TheVariants as W
use Rattle.phase_parts.specs.Writes.{written}
use Rattle.pei_core.specs.{Guids.no_changes, declared.guids.Changes.Changes, declared.taken.Taken.Taken}
use Rattle.pei_core.specs.Taken.{Does, IsTaken, refused, swept, told}
use Rattle.pei_core.specs.Taken as T
use Rattle.pei_core.proofs.Made.{Stands}

-- a fault of a service with this reply
fault_taken : {A : Type 0} (memory : Bool) (name : CallName) (service : Service A) (reply : Service A → Reply) (s new : StoreState) (registers : List Register) (fault : StoreFault)
    → ((f : StoreFault) → reply (Err f) ≡ refusal s registers (status_of f))
    → Answers memory service s (Err fault) new → IsTaken memory (Called name (reply service)) s registers (refused name fault) new
fault_taken memory name service reply s new registers F.Full tells (e, same) = ap (λ x. Called name (reply x)) e ∙ ap (Called name) (tells F.Full) ∙ ap (λ t. Called name (refusal t registers (status_of F.Full))) (sym same)
fault_taken memory name service reply s new registers F.Bad tells (e, same) = ap (λ x. Called name (reply x)) e ∙ ap (Called name) (tells F.Bad) ∙ ap (λ t. Called name (refusal t registers (status_of F.Bad))) (sym same)
fault_taken memory name service reply s new registers F.Missing tells (e, same) = ap (λ x. Called name (reply x)) e ∙ ap (Called name) (tells F.Missing) ∙ ap (λ t. Called name (refusal t registers (status_of F.Missing))) (sym same)
fault_taken memory name service reply s new registers F.NotYet tells (e, same) = ap (λ x. Called name (reply x)) e ∙ ap (Called name) (tells F.NotYet) ∙ ap (λ t. Called name (refusal t registers (status_of F.NotYet))) (sym same)
fault_taken memory name service reply s new registers F.Memory tells (e, same) = (e, same)

pub refused_taken : {A : Type 0} (memory : Bool) (name : CallName) (does : Effect) (service : Service A) (reply : Service A → Reply) (s new : StoreState) (registers : List Register) (fault : StoreFault) (taken : Result Taken OutOfMemory)
    → does ≡ Called name (reply service) → ((f : StoreFault) → reply (Err f) ≡ refusal s registers (status_of f)) → Answers memory service s (Err fault) new → taken ≡ refused name fault
    → IsTaken memory does s registers taken new
refused_taken memory name does service reply s new registers fault taken e tells answers t =
    subst (λ x. IsTaken memory does s registers x new) (sym t)
    (subst (λ x. IsTaken memory x s registers (refused name fault) new) (sym e) (fault_taken memory name service reply s new registers fault tells answers))

-- a call whose argument is there
pub given_where : {B : Type 0} (name : CallName) (argument : Option B) (given : B) (reply : B → Reply) (s : StoreState) (frame : Frame) → Some given ≡ argument → call_where name argument reply s frame ≡ Called name (reply given)
given_where name argument given reply s frame e = ap (λ a. call_where name a reply s frame) (sym e)

-- one whose argument is not there
pub not_given : {B : Type 0} (name : CallName) (argument : Option B) (reply : B → Reply) (s : StoreState) (frame : Frame) (taken : Taken)
    → None ≡ argument → taken ≡ T.refusal name InvalidParameter → Does (call_where name argument reply s frame) s frame.registers taken s
not_given name argument reply s frame taken e t =
    subst (λ x. Does (call_where name argument reply s frame) s frame.registers x s) (sym t) (ap (λ a. call_where name a reply s frame) (sym e))

-- a success
pub told_taken : (name : CallName) (does : Effect) (s new : StoreState) (registers : List Register) (extra : Extra) (writes : Writes) (taken : Taken)
    → does ≡ Called name (P.told new (written registers writes) extra) → taken ≡ told name extra writes → Does does s registers taken new
told_taken name does s new registers extra writes taken e t = subst (λ x. Does does s registers x new) (sym t) e

-- what a service made, at its address
pub made_taken : {A : Type 0} (name : CallName) (service : Service A) (place : A → ℕ) (register : A → Register) (r : ℕ) (s new : StoreState) (registers : List Register) (made : A) (address : ℕ) (writes : Writes) (taken : Taken)
    → Stands place s service → service ≡ Ok (made, new) → (place made ≤ end_place new → address ≡ new.base + place made) → writes ≡ W.One (record { r = r; register = register made }) → taken ≡ told name (X.Number address) writes
    → Does (Called name (answer_reply service (λ a. slice_set registers r (register a)) (λ a. X.Number (s.base + place a)) s registers)) s registers taken new
made_taken name service place register r s new registers made address writes taken stands e at w t =
    let here = subst (Stands place s) e stands in
    told_taken name _ s new registers (X.Number address) writes taken
    (ap (λ answer. Called name (answer_reply answer (λ a. slice_set registers r (register a)) (λ a. X.Number (s.base + place a)) s registers)) e
    ∙ ap (λ base. Called name (P.told new (slice_set registers r (register made)) (X.Number (base + place made)))) (sym here.1)
    ∙ ap (λ n. Called name (P.told new (slice_set registers r (register made)) (X.Number n))) (sym (at here.0))
    ∙ ap (λ own. Called name (P.told new (written registers own) (X.Number address))) (sym w)) t

pub swept_taken : (name : CallName) (does : Effect) (s new : StoreState) (registers : List Register) (sweep : Sweep) (installs : List Desc) (changes : Changes) (taken : Taken)
    → does ≡ Called name (record (P.told new registers X.Nothing) { sweep = Some sweep; installs = offsets installs }) → taken ≡ swept name sweep installs changes → Does does s registers taken new
swept_taken name does s new registers sweep installs changes taken e t = subst (λ x. Does does s registers x new) (sym t) e

-- a write into a pool
pub stored : (s new : StoreState) (frame : Frame) (held : Option Pool) (pool : Pool) (offset : ℕ) (bytes : List ℕ) (taken : Taken)
    → Some pool ≡ held → store s pool offset bytes ≡ Some new → taken ≡ told C.Store X.Nothing W.Nothing
    → Does (Called C.Store (store_reply s frame (option_and_then (λ to. store s to offset bytes) held))) s frame.registers taken new
stored s new frame held pool offset bytes taken at e t =
    subst (λ x. Does (Called C.Store (store_reply s frame (option_and_then (λ to. store s to offset bytes) held))) s frame.registers x new) (sym t)
    (ap (λ h. Called C.Store (store_reply s frame (option_and_then (λ to. store s to offset bytes) h))) (sym at) ∙ ap (λ r. Called C.Store (store_reply s frame r)) e)

pub not_stored : (s new : StoreState) (frame : Frame) (held : Option Pool) (pool : Pool) (offset : ℕ) (bytes : List ℕ) (taken : Taken)
    → Some pool ≡ held → store s pool offset bytes ≡ None → new ≡ s → taken ≡ T.refusal C.Store InvalidParameter
    → Does (Called C.Store (store_reply s frame (option_and_then (λ to. store s to offset bytes) held))) s frame.registers taken new
not_stored s new frame held pool offset bytes taken at e same t =
    subst (λ x. Does (Called C.Store (store_reply s frame (option_and_then (λ to. store s to offset bytes) held))) s frame.registers x new) (sym t)
    (subst (λ n. Does (Called C.Store (store_reply s frame (option_and_then (λ to. store s to offset bytes) held))) s frame.registers (T.refusal C.Store InvalidParameter) n) (sym same)
    (ap (λ h. Called C.Store (store_reply s frame (option_and_then (λ to. store s to offset bytes) h))) (sym at) ∙ ap (λ r. Called C.Store (store_reply s frame r)) e))

-- one where no register holds the pool
pub no_pool : (s : StoreState) (frame : Frame) (held : Option Pool) (offset : ℕ) (bytes : List ℕ) (taken : Taken) → None ≡ held → taken ≡ T.refusal C.Store InvalidParameter
    → Does (Called C.Store (store_reply s frame (option_and_then (λ to. store s to offset bytes) held))) s frame.registers taken s
no_pool s frame held offset bytes taken e t =
    subst (λ x. Does (Called C.Store (store_reply s frame (option_and_then (λ to. store s to offset bytes) held))) s frame.registers x s) (sym t)
    (ap (λ h. Called C.Store (store_reply s frame (option_and_then (λ to. store s to offset bytes) h))) (sym e))

-- bytes that are read
abbrev shown : StoreState → List Register → Answer → Effect
shown s registers answer = Called C.Peek (T.reply_in (record { name = C.Peek; status = answer.status; extra = answer.extra; writes = W.Nothing; sweep = None; installs = record { items = [] }; changes = no_changes }) registers s)

abbrev peek_at : StoreState → List Register → Option (List ℕ) → Effect
peek_at s registers bytes = Called C.Peek (reply_where bytes (λ read. P.told s registers (X.Bytes (record { items = read }))) s registers NotFound)

bytes_shown : (s : StoreState) (registers : List Register) (bytes : Option (List ℕ)) → peek_at s registers bytes ≡ shown s registers (told_bytes bytes)
bytes_shown s registers None = refl
bytes_shown s registers (Some bytes) = refl

pub peek_shown : (s : StoreState) (frame : Frame) (n : ℕ) (at : Option ℕ) → call_where C.Peek at (peek_reply s frame n) s frame ≡ shown s frame.registers (told_at s n at)
peek_shown s frame n None = refl
peek_shown s frame n (Some at) = bytes_shown s frame.registers (bytes_at s at n)
