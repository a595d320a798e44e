-- A call that may refuse, from the call of the heap.
use Rattle.std.proofs.Common.{◌≡◌, ◌∙◌, ◌≤◌, ◌+◌, ◌-◌, ◌*◌, ◌==◌, true≢false, ap, arith, length, [], ◌∷◌, ℕ, List, Bool, true, false, cond, Option, Some, None, Ok, Err, refl, sym, subst, nat_lt, not, IfSome}
use Rattle.std.specs.Prelude.{⊤}
use Rattle.std.proofs.lemmas.Bool.Decides.{nat_tests}
use Rattle.pi_base.specs.{declared.guid.Guid.Guid, declared.span.Span.Span}
use Rattle.phys_mem.specs.{Region.replaced, declared.memory.PhysMem.PhysMem}
use Rattle.store_model.specs.{declared.store_handle.Desc.Desc, declared.store_handle.DescKind.DescKind, declared.store_handle.Firing.Firing}
use Rattle.store_model.specs.{declared.store_handle.GuidFrom.GuidFrom, declared.store_handle.Pool.Pool}
use Rattle.store_model.specs.{declared.state.Body.TheVariants.Bytes, declared.state.DescriptorBody.DescriptorBody}
use Rattle.store_model.specs.{declared.state.Pending.Pending, StateFacts.IsStoreState, StateFacts.IsHeap, HeapImage.heap_image}
use Rattle.store_model.specs.{Service.Descriptor.desc, Service.Descriptor.desc_of, Service.Sweep.firing_of}
use Rattle.store_model.specs.Service.Queue.{popped, queue_pop, zeroed}
use Rattle.store_laws.specs.{Keeping.Keeps, Changes.PoolsAreWritten, Mapped.layout_of}
use Rattle.pei_heap.specs.{declared.links.heads.Heads.Heads, Popped.IsPopped, Pages.IsEarly}
use Rattle.heap_store.specs.{Made.IsSame, NewDescriptor.IsDescriptorOf, declared.store.HeapStore.HeapStore, HeapState.StandsFor}
use Rattle.hob_codec.specs.{HobValue.HobValue, HobBytes.length_of}
use Rattle.store_model.specs.declared.store_handle.StoreFault.TheVariants.{Bad, Full, NotYet}
use Rattle.store_model.specs.{declared.state.HobEntry.HobEntry, Service.Hob.create_hob, declared.store_handle.StoreFault.StoreFault}
use Rattle.store_model.specs.StoreState.{StoreState, body_at, descriptor_len, free, with_body, range_of}
use Rattle.store_model.specs.Service.{Service, Performs, Takes, in_room}
use Rattle.store_model.specs.Service.Memory.{early_pages, is_memory, pages, pages_taken, set_memory}
use Rattle.store_model.specs.Service.Pool.{pool, store, written}
use Rattle.pei_heap.specs.HeapMemory.{Holds, IsHeapOf, IsServed, Serves}
use Rattle.heap_store.proofs.Standing.{stands_early, stands_grown, stands_linked, stands_planned, stands_same, with_heap}

-- a service that changes HOBs alone, and pages after the move
pub record Adds (s t : StoreState) : Type 0 where
  pub hobs : List HobEntry
  pub taken : ℕ
  pub is : t ≡ with_heap s hobs taken s.boot_mode
  pub early : s.moved ≡ false → s.taken ≡ taken

abbrev pub AddsHobs : {A : Type 0} → StoreState → Service A → Type 0
AddsHobs s (Ok (answer, t)) = Adds s t
AddsHobs s (Err fault) = ⊤

cond_adds : {A : Type 0} (s : StoreState) (full : Bool) (service : Service A) → AddsHobs s service → AddsHobs s (cond full (Err Full) service)
cond_adds s true service h = tt
cond_adds s false service h = h

pub pool_adds : (s : StoreState) (size : ℕ) → AddsHobs s (pool s size)
pool_adds s size = cond_adds s (nat_lt 65520 size) _ (cond_adds s (nat_lt (free s) _) _ (record { hobs = _; taken = s.taken; is = refl; early = λ before. refl }))

pub hob_adds : (s : StoreState) (hob : HobValue) → AddsHobs s (create_hob s hob)
hob_adds s hob = cond_adds s (nat_lt (free s) (length_of hob)) _ (record { hobs = _; taken = s.taken; is = refl; early = λ before. refl })

-- the store stands for the state that was served
pub served : (m : HeapStore) (s t : StoreState) (memory : PhysMem) → StandsFor m s → Adds s t → IsHeapOf m.heap memory t → StandsFor (record m { memory = memory }) t
served m s t memory h adds is =
    let here = subst (IsHeapOf m.heap memory) adds.is is in
    subst (StandsFor (record m { memory = memory })) (sym adds.is) (stands_grown m s adds.hobs adds.taken s.boot_mode memory h here adds.early)

pub served_some : {A : Type 0} (service : Service A) (m : HeapStore) (s : StoreState) (memory : PhysMem) (answer : A) → StandsFor m s → AddsHobs s service
    → IsServed service m.heap m.memory (Some answer) memory → (t : StoreState) × (service ≡ Ok (answer, t)) × StandsFor (record m { memory = memory }) t
served_some service m s memory answer h adds out =
    let adds_t : AddsHobs s (Ok (answer, out.0)) = subst (AddsHobs s) out.1 adds in
    (out.0, out.1, served m s out.0 memory h adds_t out.2)

pub row_some : {A : Type 0} (service : StoreState → Service A) (m : HeapStore) (memory : PhysMem) (answer : A) → ((s : StoreState) → AddsHobs s (service s))
    → Serves m.heap m.memory memory service (Some answer) → Performs false (StandsFor m) (StandsFor (record m { memory = memory })) service (Ok answer)
row_some service m memory answer adds serves s h = served_some (service s) m s memory answer h (adds s) (serves s h.linked.heap_is)

-- pages after the move
pub pages_adds : (s : StoreState) (memory_type count : ℕ) → s.moved ≡ true → AddsHobs s (pages s memory_type count)
pages_adds s memory_type count moved =
    let len = 4096 * count in
    let is : pages s memory_type count ≡ in_room s (48 + len) (pages_taken s memory_type len) = ap (λ b. cond b (in_room s (48 + len) (pages_taken s memory_type len)) (early_pages s memory_type len)) moved in
    subst (AddsHobs s) (sym is) (cond_adds s (nat_lt (free s) (48 + len)) _ (record { hobs = _; taken = s.taken + len; is = refl; early = λ before. absurd (true≢false (sym moved ∙ before)) }))

-- and before it
abbrev AddsPages : {A : Type 0} → StoreState → ℕ → Service A → Type 0
AddsPages s len (Ok (answer, t)) = (hobs : List HobEntry) × (t ≡ with_heap s hobs (s.taken + len) s.boot_mode)
AddsPages s len (Err fault) = ⊤

cond_pages : {A : Type 0} (s : StoreState) (len : ℕ) (refused : Bool) (fault : StoreFault) (service : Service A) → AddsPages s len service → AddsPages s len (cond refused (Err fault) service)
cond_pages s len true fault service h = tt
cond_pages s len false fault service h = h

early_adds : (s : StoreState) (memory_type count : ℕ) → s.moved ≡ false → AddsPages s (4096 * count) (pages s memory_type count)
early_adds s memory_type count before =
    let len = 4096 * count in
    let is : pages s memory_type count ≡ early_pages s memory_type len = ap (λ b. cond b (in_room s (48 + len) (pages_taken s memory_type len)) (early_pages s memory_type len)) before in
    subst (AddsPages s len) (sym is)
    (cond_pages s len (s.board.pages == 0) NotYet _ (cond_pages s len (nat_lt (s.board.pages - s.taken) len) Full _ (cond_pages s len (nat_lt (free s) 48) Full _ (_, refl))))

pub early_is : (m : HeapStore) (s : StoreState) → StandsFor m s → s.moved ≡ false → IsEarly m.heap m.memory m.pages m.early s
early_is m s h before =
    let heap : IsHeap s false = subst (IsHeap s) before h.linked.heap_is.state.heap in
    record { heap_is = h.linked.heap_is; not_moved = before; region_len = h.board.pages; region_end = h.board.pages_end ∙ sym heap.2; early_is = h.early before }

pub early_some : (m : HeapStore) (s : StoreState) (memory : PhysMem) (memory_type count lowest early : ℕ) → StandsFor m s → s.moved ≡ false → early ≡ m.early + 4096 * count
    → IsServed (pages s memory_type count) m.heap m.memory (Some lowest) memory
    → (t : StoreState) × (pages s memory_type count ≡ Ok (lowest, t)) × StandsFor (record m { memory = memory; early = early }) t
early_some m s memory memory_type count lowest early h before e out =
    let adds : AddsPages s (4096 * count) (Ok (lowest, out.0)) = subst (AddsPages s (4096 * count)) out.1 (early_adds s memory_type count before) in
    let here = subst (IsHeapOf m.heap memory) adds.1 out.2 in
    let taken : early ≡ s.taken + 4096 * count = e ∙ ap (λ n. n + 4096 * count) (h.early before) in
    (out.0, out.1, subst (StandsFor (record m { memory = memory; early = early })) (sym adds.1) (stands_early m s adds.0 (s.taken + 4096 * count) s.boot_mode early memory h here (λ still. taken)))

pub early_none : (m : HeapStore) (s : StoreState) (memory : PhysMem) (memory_type count : ℕ) → StandsFor m s
    → IsServed (pages s memory_type count) m.heap m.memory None memory → (t : StoreState) × ((pages s memory_type count ≡ Err Full) × (t ≡ s)) × StandsFor (record m { memory = memory }) t
early_none m s memory memory_type count h out = (s, (out.0, refl), stands_same m s memory h out.1)

-- a descriptor
desc_adds : (s : StoreState) (d : DescriptorBody) → AddsHobs s (desc_of s d.kind d.number (Some (d.guid, d.stands)))
desc_adds s d = cond_adds s (nat_lt (free s) (descriptor_len d.stands + 8)) _ (record { hobs = _; taken = s.taken; is = refl; early = λ before. refl })

pub desc_some : (m : HeapStore) (s : StoreState) (memory : PhysMem) (kind : DescKind) (guid : GuidFrom) (number : ℕ) (d : DescriptorBody) (made : Desc) → StandsFor m s
    → IsDescriptorOf s kind guid number d → IsServed (desc_of s d.kind d.number (Some (d.guid, d.stands))) m.heap m.memory (Some made) memory
    → (t : StoreState) × (desc s kind guid number ≡ Ok (made, t)) × StandsFor (record m { memory = memory }) t
desc_some m s memory kind guid number d made h is out =
    let told : Option (Guid × Option ℕ) = Some (d.guid, d.stands) in
    let same : desc s kind guid number ≡ desc_of s d.kind d.number told =
    ap (desc_of s kind number) is.guid_is ∙ ap (λ k. desc_of s k number told) (sym is.kind_is) ∙ ap (λ n. desc_of s d.kind n told) (sym is.number_is) in
    let row = served_some (desc_of s d.kind d.number told) m s memory made h (desc_adds s d) out in
    (row.0, same ∙ row.1, row.2)

-- a pool that is written
pub pool_written : (m : HeapStore) (s : StoreState) (memory : PhysMem) (to : Pool) (at : ℕ) (old bytes : List ℕ) → StandsFor m s → body_at s to.offset ≡ Some (Bytes old) → to.size ≤ length old
    → at + length bytes ≤ to.size → PoolsAreWritten → IfSome (store s to at bytes) IsStoreState → Holds m.heap memory (layout_of s) (replaced (heap_image s) (to.offset + at) bytes)
    → (t : StoreState) × (store s to at bytes ≡ Some t) × StandsFor (record m { memory = memory }) t
pool_written m s memory to at old bytes h found size le law keeps holds =
    let hobs = with_body (written at bytes) 56 s.hobs to.offset in
    let t = with_heap s hobs s.taken s.boot_mode in
    let fits : nat_lt to.size (at + length bytes) ≡ false = grind (arith, nat_tests, le) in
    let made : store s to at bytes ≡ Some t = ap (λ b. cond b None (Some t)) fits in
    let facts : IsStoreState t = subst (λ x. IfSome x IsStoreState) made keeps in
    let same : heap_image t ≡ replaced (heap_image s) (to.offset + at) bytes = law s to.offset at old bytes h.linked.heap_is.state found (omega (arith, size, le)) in
    let image : Holds m.heap memory (layout_of s) (heap_image t) = subst (Holds m.heap memory (layout_of s)) (sym same) holds in
    (t, made, stands_grown m s hobs s.taken s.boot_mode memory h (record { state = facts; image = image }) (λ before. refl))

-- permanent memory that is planned
pub plan_row : (m : HeapStore) (s : StoreState) (to : Span) → StandsFor m s → is_memory s to.base to.len ≡ true → Keeps (set_memory s to.base to.len)
    → (t : StoreState) × (set_memory s to.base to.len ≡ Ok (tt, t)) × StandsFor (record m { planned = Some to }) t
plan_row m s to h is keeps =
    let t = record s { planned = Some (range_of to) } in
    let service : Service (Unit {0}) = Ok (tt, t) in
    let made : set_memory s to.base to.len ≡ Ok (tt, t) = ap (λ b. cond (not b) (Err Bad) service) is in
    (t, made, stands_planned m s to h (subst Keeps made keeps))

-- a pair that leaves the queue
pop_same : (s : StoreState) (pendings : List Pending) (firing : Firing) (t : StoreState) → popped s pendings ≡ Some (firing, t) → IsSame s t
pop_same s [] firing t e = cc
pop_same s (first ∷ rest) firing t e =
    let left = record s { hobs = with_body zeroed 56 s.hobs first.node; pendings = rest } in
    let ours : Firing × StoreState = (firing_of s first.ppi first.descriptor, left) in
    let told : Firing × StoreState = (firing, t) in
    let same : ours ≡ told = cc in
    let here : IsSame s left = record { board = refl; planned = refl; moved = refl; taken = refl } in
    subst (IsSame s) (ap (λ p. p.1) same) here

pub pop_row : (m : HeapStore) (s : StoreState) (memory : PhysMem) (heads : Heads) (result : Option Firing) → StandsFor m s
    → IsPopped m.heap s result (record { old_memory = m.memory; old_heads = m.heads; new_memory = memory; new_heads = heads })
    → (t : StoreState) × Takes (queue_pop s) s result t × StandsFor (record m { memory = memory; heads = heads }) t
pop_row m s memory heads (Some firing) h out = (out.0, out.1, stands_linked m s out.0 memory heads h out.2 (pop_same s s.pendings firing out.0 out.1))
pop_row m s memory heads None h out =
    let same = stands_same m s memory h out.1 in
    (s, (out.0, refl), subst (λ (x : Heads). StandsFor (record m { memory = memory; heads = x }) s) (sym out.2) same)
