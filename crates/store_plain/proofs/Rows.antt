-- What a call says of the store's own state it says of each state that the store stands for, and what holds of every state holds of the one after.
use Rattle.std.proofs.Common.{◌≡◌, ℕ, ◌+◌, length, Bool, true, false, List, sym, refl, ap, subst, ◌∙◌, Option, Some, None, Result, Ok, Err, IfSome, OnOk}
use Rattle.hob_codec.specs.HobBytes.{fields_of, joined, length_of}
use Rattle.hob_codec.specs.HobValue.{HobValue}
use Rattle.store_model.specs.{declared.store_handle.Firing.Firing, declared.store_handle.Pool.Pool}
use Rattle.store_model.specs.{declared.store_handle.StoreFault.StoreFault, StoreState.StoreState}
use Rattle.store_model.specs.declared.store_handle.StoreFault.TheVariants as F
use Rattle.store_model.specs.{StateFacts.IsPool, StateFacts.IsStoreState, Service.Hob.create_hob, Service.Pool.store}
use Rattle.store_model.specs.StoreCall.{IsDue, IsScriptHob, Migrates}
use Rattle.store_model.specs.Service.{AfterEach, And, Answers, OfEach, Present, Service, Stores, Takes}
use Rattle.store_model.specs.{Service.Queue.queue_pop, Service.Memory.with_boot_mode}
use Rattle.store_laws.specs.Keeping.{IsWord, Keeps}
use Rattle.store_laws.proofs.Services.{all_keep}
use Rattle.store_plain.specs.{declared.store.PlainStore.PlainStore, PlainState.state_of, PlainState.stands_for}

pub present : (p : PlainStore) (Needs : StoreState → Type 0) → Present (stands_for p) Needs → IsStoreState (state_of p)
present p Needs h = subst IsStoreState h.1.0 h.1.1

pub needed : (p : PlainStore) (Needs : StoreState → Type 0) → Present (stands_for p) Needs → Needs (state_of p)
needed p Needs h = subst Needs h.1.0 h.2

pub each_of : (p : PlainStore) (Needs R : StoreState → Type 0) → R (state_of p) → OfEach (stands_for p) Needs R
each_of p Needs R r s h needs = subst R (sym h.0) r

-- the state after a call that refuses, and after one that answers
unchanged : {A : Type 0} (service : Service A) (old : StoreState) (fault : StoreFault) (t : StoreState) → Answers true service old (Err fault) t → IsStoreState old → IsStoreState t
unchanged service old F.Memory t told facts = subst IsStoreState (sym told.1) facts
unchanged service old F.Full t told facts = subst IsStoreState (sym told.1) facts
unchanged service old F.Bad t told facts = subst IsStoreState (sym told.1) facts
unchanged service old F.Missing t told facts = subst IsStoreState (sym told.1) facts
unchanged service old F.NotYet t told facts = subst IsStoreState (sym told.1) facts

after : {A : Type 0} (service : Service A) (old : StoreState) (result : Result A StoreFault) (t : StoreState) → Answers true service old result t → Keeps service → IsStoreState old → IsStoreState t
after service old (Ok answer) t told keeps facts = subst Keeps told keeps
after service old (Err fault) t told keeps facts = unchanged service old fault t told facts

hob_after : (hob : HobValue) (old : StoreState) (result : Result ℕ StoreFault) (t : StoreState) → IsScriptHob hob → OnOk result (8 + length (joined (fields_of hob)) ≡ length_of hob)
    → Answers true (create_hob old hob) old result t → IsStoreState old → IsStoreState t
hob_after hob old (Ok answer) t script fields told facts = after (create_hob old hob) old (Ok answer) t told (all_keep.create_hob old hob facts (record { script = script; len = fields })) facts
hob_after hob old (Err fault) t script fields told facts = unchanged (create_hob old hob) old fault t told facts

pub row_of : {A : Type 0} (service : StoreState → Service A) (old new : PlainStore) (result : Result A StoreFault) → ((s : StoreState) → IsStoreState s → Keeps (service s))
    → Answers true (service (state_of old)) (state_of old) result (state_of new) → AfterEach (stands_for old) (stands_for new) (λ a b. Answers true (service a) a result b)
row_of service old new result keeps told s h =
    let here : Answers true (service s) s result (state_of new) = subst (λ x. Answers true (service x) x result (state_of new)) (sym h.0) told in
    (state_of new, here, (refl, after (service s) s result (state_of new) here (keeps s h.1) h.1))

pub row_with : {A : Type 0} (service : StoreState → Service A) (Needs : StoreState → Type 0) (old new : PlainStore) (result : Result A StoreFault) → ((s : StoreState) → IsStoreState s → Needs s → Keeps (service s))
    → Answers true (service (state_of old)) (state_of old) result (state_of new) → AfterEach (And (stands_for old) Needs) (stands_for new) (λ a b. Answers true (service a) a result b)
row_with service Needs old new result keeps told s h =
    let here : Answers true (service s) s result (state_of new) = subst (λ x. Answers true (service x) x result (state_of new)) (sym h.0.0) told in
    (state_of new, here, (refl, after (service s) s result (state_of new) here (keeps s h.0.1 h.1) h.0.1))

-- a HOB whose fields have their lengths, where it was made
pub hob_row : (hob : HobValue) (old new : PlainStore) (result : Result ℕ StoreFault) → IsScriptHob hob → OnOk result (8 + length (joined (fields_of hob)) ≡ length_of hob)
    → Answers true (create_hob (state_of old) hob) (state_of old) result (state_of new) → AfterEach (stands_for old) (stands_for new) (λ a b. Answers true (create_hob a hob) a result b)
hob_row hob old new result script fields told s h =
    let here : Answers true (create_hob s hob) s result (state_of new) = subst (λ x. Answers true (create_hob x hob) x result (state_of new)) (sym h.0) told in
    (state_of new, here, (refl, hob_after hob s result (state_of new) script fields here h.1))

-- a write into a pool
stored : (service : Option StoreState) (s : StoreState) (result : Bool) (t : StoreState) → Stores service s result t → IfSome service IsStoreState → IsStoreState s → IsStoreState t
stored service s true t told keeps facts = subst (λ (o : Option StoreState). IfSome o IsStoreState) told keeps
stored service s false t told keeps facts = subst IsStoreState (sym told.1) facts

pub store_row : (to : Pool) (at : ℕ) (bytes : List ℕ) (old new : PlainStore) (result : Bool) → Stores (store (state_of old) to at bytes) (state_of old) result (state_of new)
    → AfterEach (And (stands_for old) (λ s. IsPool s to)) (stands_for new) (λ a b. Stores (store a to at bytes) a result b)
store_row to at bytes old new result told s h =
    let here : Stores (store s to at bytes) s result (state_of new) = subst (λ x. Stores (store x to at bytes) x result (state_of new)) (sym h.0.0) told in
    (state_of new, here, (refl, stored (store s to at bytes) s result (state_of new) here (all_keep.store s to at bytes h.0.1 h.1) h.0.1))

-- the queue
taken : {A : Type 0} (service : Option (A × StoreState)) (s : StoreState) (result : Option A) (t : StoreState) → Takes service s result t → IfSome service (λ told. IsStoreState told.1) → IsStoreState s → IsStoreState t
taken {A} service s (Some answer) t told keeps facts = subst (λ (o : Option (A × StoreState)). IfSome o (λ x. IsStoreState x.1)) told keeps
taken service s None t told keeps facts = subst IsStoreState (sym told.1) facts

pub queue_row : (old new : PlainStore) (result : Option Firing) → Takes (queue_pop (state_of old)) (state_of old) result (state_of new)
    → AfterEach (stands_for old) (stands_for new) (λ a b. Takes (queue_pop a) a result b)
queue_row old new result told s h =
    let here : Takes (queue_pop s) s result (state_of new) = subst (λ x. Takes (queue_pop x) x result (state_of new)) (sym h.0) told in
    (state_of new, here, (refl, taken (queue_pop s) s result (state_of new) here (all_keep.queue_pop s h.1) h.1))

-- the move
pub move_row : (old new : PlainStore) (result : ℕ × ℕ) → Migrates (state_of old) result (state_of new) → AfterEach (And (stands_for old) IsDue) (stands_for new) (λ a b. Migrates a result b)
move_row old new result told s h =
    let here : Migrates s result (state_of new) = subst (λ x. Migrates x result (state_of new)) (sym h.0.0) told in
    (state_of new, here, (refl, subst (λ (o : Option StoreState). IfSome o IsStoreState) here.0 (all_keep.move s h.0.1)))

-- the boot mode
pub mode_row : (mode : ℕ) (old new : PlainStore) → IsWord mode → state_of new ≡ with_boot_mode (state_of old) mode → AfterEach (stands_for old) (stands_for new) (λ a b. b ≡ with_boot_mode a mode)
mode_row mode old new word told s h =
    let here : state_of new ≡ with_boot_mode s mode = told ∙ ap (λ x. with_boot_mode x mode) (sym h.0) in
    (state_of new, here, (refl, subst IsStoreState (sym here) (all_keep.boot_mode s mode h.1 word)))
