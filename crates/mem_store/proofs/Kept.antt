-- Calls that leave the lists as they are, over the index that says of the state behind them what it said before.
use Rattle.std.proofs.Common.{◌≡◌, Bool, true, false, sym, subst, Option, Some, None, Result, Ok, Err, IfSome}
use Rattle.store_model.specs.{declared.store_handle.StoreFault.StoreFault, StoreState.StoreState, StateFacts.IsStoreState}
use Rattle.store_model.specs.declared.store_handle.StoreFault.TheVariants as F
use Rattle.store_model.specs.Service.{Answers, Performs, Service, Stores, Takes}
use Rattle.mem_store.specs.{Serving.After, Serving.RowsSame, declared.index.Index.Index, declared.store.MemStore.MemStore, Indexed.Says}
use Rattle.heap_store.specs.HeapState as H
use Rattle.mem_store.specs.MemState.{StandsFor}
use Rattle.mem_store.proofs.Saying.{facts_of, same_says}

-- a refusal leaves the state
refused_on : (index : Index) (s t : StoreState) → t ≡ s → Says index s → Says index t
refused_on index s t same says = subst (Says index) (sym same) says

refused_says : {A : Type 0} (index : Index) (s t : StoreState) (service : Service A) (fault : StoreFault) → Answers false service s (Err fault) t → Says index s → Says index t
refused_says index s t service F.Memory is says = refused_on index s t is.1 says
refused_says index s t service F.Full is says = refused_on index s t is.1 says
refused_says index s t service F.Bad is says = refused_on index s t is.1 says
refused_says index s t service F.Missing is says = refused_on index s t is.1 says
refused_says index s t service F.NotYet is says = refused_on index s t is.1 says

same_on : {A : Type 0} (index : Index) (s t : StoreState) (service : Service A) (result : Result A StoreFault)
    → After (RowsSame s) service → Answers false service s result t → Says index s → Says index t
same_on index s t service (Ok answer) after is says = same_says index s t (subst (λ r. After (RowsSame s) r) is after) says
same_on index s t service (Err fault) after is says = refused_says index s t service fault is says

pub kept : {A : Type 0} (service : StoreState → Service A) (old new : MemStore) (result : Result A StoreFault) → new.index ≡ old.index
    → ((s : StoreState) → IsStoreState s → After (RowsSame s) (service s))
    → Performs false (H.StandsFor old.behind) (H.StandsFor new.behind) service result
    → Performs false (StandsFor old) (StandsFor new) service result
kept service old new result same laws performs = λ s stands.
    let after = performs s stands.memory in
    let says = same_on old.index s after.0 (service s) result (laws s (facts_of old.behind s stands.memory)) after.1 stands.index in
    (after.0, after.1, record { memory = after.2; index = subst (λ i. Says i after.0) (sym same) says })

pub stored_on : (index : Index) (s t : StoreState) (service : Option StoreState) (result : Bool) → IfSome service (RowsSame s) → Stores service s result t
    → Says index s → Says index t
stored_on index s t service true after is says = same_says index s t (subst (λ r. IfSome r (RowsSame s)) is after) says
stored_on index s t service false after is says = refused_on index s t is.1 says

pub taken_on : {A : Type 0} (index : Index) (s t : StoreState) (service : Option (A × StoreState)) (result : Option A)
    → IfSome service (λ told. RowsSame s told.1) → Takes service s result t → Says index s → Says index t
taken_on index s t service (Some answer) after is says = same_says index s t (subst (λ r. IfSome r (λ told. RowsSame s told.1)) is after) says
taken_on index s t service None after is says = refused_on index s t is.1 says

-- a call that is refused leaves the state, and an index that was not told of it
pub refused : {A : Type 0} (service : Service A) (new : MemStore) (s : StoreState) (fault : StoreFault)
    → ((t : StoreState) × Answers false service s (Err fault) t × H.StandsFor new.behind t) → Says new.index s
    → (t : StoreState) × Answers false service s (Err fault) t × StandsFor new t
refused service new s fault after says = (after.0, after.1, record { memory = after.2; index = refused_says new.index s after.0 service fault after.1 says })
