-- The services, one by one.
use Rattle.std.proofs.Common.{◌≡◌, ◌≢◌, ℕ, ◌+◌, ◌-◌, ◌*◌, ◌≤◌, ◌==◌, Bool, true, false, not, cond, List, [], ◌∷◌, ◌++◌, length, take, drop, ap, refl, sym, ◌∙◌, arith, Option, Some, None, Ok, Err, length-append, length-drop, IfSome, fold, map, nat_lt, option_map, replicate, length-take}
use Rattle.std.proofs.lemmas.Bool.Decides.{nat_tests}
use Rattle.pi_base.specs.{declared.guid.Guid.Guid, Lists.Each}
use Rattle.hob_codec.specs.{HobValue.HobValue, HobBytes.length_of}
use Rattle.std.specs.List.{list_all}
use Rattle.store_model.specs.declared.state.Body.TheVariants.{Bytes, Descriptor, Node}
use Rattle.store_model.specs.{declared.state.DescriptorBody.DescriptorBody, declared.state.Entry.Entry, declared.state.HobEntry.HobEntry}
use Rattle.store_model.specs.{declared.state.Pending.Pending, declared.store_handle.Desc.Desc, declared.store_handle.DescKind.DescKind}
use Rattle.store_model.specs.{declared.store_handle.GuidFrom.GuidFrom, declared.store_handle.Pool.Pool}
use Rattle.store_model.specs.{declared.store_handle.StoreFault.StoreFault, Migration.migrated_to, Migration.migration}
use Rattle.store_model.specs.declared.store_handle.StoreFault.TheVariants as F
use Rattle.store_model.specs.StoreState.{Range, StoreState, appended, descriptor_len, end_place, free, header_len, next_body, pool_of, rounded}
use Rattle.store_model.specs.StateFacts.{IsDesc, IsPending, IsPool, IsStoreState}
use Rattle.store_model.specs.{Service.Service, Service.in_room, Service.Queue.popped, Service.Queue.zeroed}
use Rattle.store_model.specs.Service.Descriptor.{desc_of, descriptors, guid_from, is_ppi, kind_at, offsets}
use Rattle.store_model.specs.Service.Descriptor as D
use Rattle.store_model.specs.Service.Hob as H
use Rattle.store_model.specs.Service.Install.{install_pairs, with_pending, with_ppi}
use Rattle.store_model.specs.Service.Install as I
use Rattle.store_model.specs.Service.Memory as M
use Rattle.store_model.specs.Service.Pool as P
use Rattle.store_laws.specs.Bodies.{BodiesStay, IsGrown, KeepsLength, changed}
use Rattle.mem_store.specs.{declared.guid_index.index.Indexed.Indexed, Rows.row_at, Rows.rows_of}
use Rattle.mem_store.specs.Nodes.{Begins, named_row, named_rows}
use Rattle.mem_store.specs.Serving.{After, RowsInstalled, RowsSame}
use Rattle.mem_store.proofs.Descs.{descs_rows, descs_stay}
use Rattle.mem_store.proofs.KeepingRows.{changed_rows, grown_rows, moved_rows}

pub refused_or : {A : Type 0} (P : StoreState → Type 0) (b : Bool) (fault : StoreFault) (service : Service A) → After P service → After P (cond b (Err fault) service)
refused_or P true fault service h = tt
refused_or P false fault service h = h

either_of : {A : Type 0} (P : StoreState → Type 0) (b : Bool) (one two : Service A) → After P one → After P two → After P (cond b one two)
either_of P true one two h k = h
either_of P false one two h k = k

pub made_in_room : {A : Type 0} (s : StoreState) (P : StoreState → Type 0) (need : ℕ) (answer : A) (t : StoreState) → P t → After P (in_room s need (Ok (answer, t)))
made_in_room s P need answer t h = refused_or P (nat_lt (free s) need) F.Full (Ok (answer, t)) h

pub appended_same : BodiesStay → (s : StoreState) (hob : HobEntry) → IsStoreState s → RowsSame s (appended s hob)
appended_same stay s hob state =
    let are = grown_rows s (appended s hob) state (stay.grown s hob) in
    record { ppis = are.ppis; callbacks = are.callbacks; dispatches = are.dispatches; named = refl }

pub pool_keeps : BodiesStay → (s : StoreState) (size : ℕ) → IsStoreState s → After (RowsSame s) (P.pool s size)
pool_keeps stay s size state =
    let hob : HobEntry = pool_of (Bytes (replicate (rounded size) 0)) in
    let made : Pool = record { offset = next_body s; size = size } in
    let room = made_in_room s (RowsSame s) (rounded size + header_len) made (appended s hob) (appended_same stay s hob state) in
    refused_or (RowsSame s) (nat_lt P.most_pool size) F.Full (in_room s (rounded size + header_len) (Ok (made, appended s hob))) room

desc_on : BodiesStay → (s : StoreState) (kind : DescKind) (number : ℕ) (found : Option (Guid × Option ℕ)) → IsStoreState s → After (RowsSame s) (desc_of s kind number found)
desc_on stay s kind number None state = tt
desc_on stay s kind number (Some (guid, stands)) state =
    let hob : HobEntry = pool_of (Descriptor (record { kind = kind; guid = guid; stands = stands; number = number })) in
    let made : Desc = record { offset = next_body s } in
    made_in_room s (RowsSame s) (descriptor_len stands + header_len) made (appended s hob) (appended_same stay s hob state)

pub desc_keeps : BodiesStay → (s : StoreState) (kind : DescKind) (guid : GuidFrom) (number : ℕ) → IsStoreState s → After (RowsSame s) (D.desc s kind guid number)
desc_keeps stay s kind guid number state = desc_on stay s kind number (guid_from s guid) state

pub hob_keeps : BodiesStay → (s : StoreState) (hob : HobValue) → IsStoreState s → After (RowsSame s) (H.create_hob s hob)
hob_keeps stay s hob state =
    made_in_room s (RowsSame s) (length_of hob) (s.base + end_place s) (appended s (H.hob_entry hob)) (appended_same stay s (H.hob_entry hob) state)

planned_same : (s : StoreState) (to : Option Range) → IsStoreState s → RowsSame s (record s { planned = to })
planned_same s to state =
    let are = grown_rows s (record s { planned = to }) state (λ place body e. e) in
    record { ppis = are.ppis; callbacks = are.callbacks; dispatches = are.dispatches; named = refl }

pub set_memory_keeps : (s : StoreState) (begin len : ℕ) → IsStoreState s → After (RowsSame s) (M.set_memory s begin len)
set_memory_keeps s begin len state =
    let to : Option Range = Some (record { base = begin; len = len }) in
    let done : Service (Unit {0}) = Ok (tt, record s { planned = to }) in
    refused_or (RowsSame s) (not (M.is_memory s begin len)) F.Bad done (planned_same s to state)

pub boot_mode_keeps : (s : StoreState) (mode : ℕ) → IsStoreState s → RowsSame s (M.with_boot_mode s mode)
boot_mode_keeps s mode state =
    let are = grown_rows s (M.with_boot_mode s mode) state (λ place body e. e) in
    record { ppis = are.ppis; callbacks = are.callbacks; dispatches = are.dispatches; named = refl }

taken_same : BodiesStay → (s : StoreState) (memory_type len : ℕ) → IsStoreState s → RowsSame s (M.with_pages s memory_type len)
taken_same stay s memory_type len state =
    let are = grown_rows s (M.with_pages s memory_type len) state (λ place body e. stay.grown s (M.allocation_hob memory_type len (s.taken + len)) place body e) in
    record { ppis = are.ppis; callbacks = are.callbacks; dispatches = are.dispatches; named = refl }

pub pages_keep : BodiesStay → (s : StoreState) (memory_type count : ℕ) → IsStoreState s → After (RowsSame s) (M.pages s memory_type count)
pages_keep stay s memory_type count state =
    let len : ℕ = M.page_len * count in
    let P = RowsSame s in
    let done : Service ℕ = M.pages_taken s memory_type len in
    let same = taken_same stay s memory_type len state in
    let early : Service ℕ = in_room s M.allocation_len done in
    either_of P s.moved (in_room s (M.allocation_len + len) done) (M.early_pages s memory_type len)
    (refused_or P (nat_lt (free s) (M.allocation_len + len)) F.Full done same)
    (refused_or P (s.board.pages == 0) F.NotYet (cond (nat_lt (s.board.pages - s.taken) len) (Err F.Full) early)
    (refused_or P (nat_lt (s.board.pages - s.taken) len) F.Full early (refused_or P (nat_lt (free s) M.allocation_len) F.Full done same)))

bytes_other : (bytes : List ℕ) (d : DescriptorBody) → Bytes bytes ≢ Descriptor d
bytes_other bytes d e = absurd (cc)

node_other : (d : DescriptorBody) → Node ≢ Descriptor d
node_other d e = absurd (cc)

written_len : (from : ℕ) (bytes old : List ℕ) → from + length bytes ≤ length old → length (take from old ++ bytes ++ drop (from + length bytes) old) ≡ length old
written_len from bytes old le =
    let front = length-take from old in
    let back = length-drop (from + length bytes) old in
    let one = length-append (take from old) bytes in
    let all = length-append (take from old ++ bytes) (drop (from + length bytes) old) in
    omega (arith, le, front, back, one, all)

fits_in : (a b : ℕ) → nat_lt a b ≡ false → b ≤ a
fits_in a b e = grind (arith, nat_tests)

store_on : BodiesStay → (s : StoreState) (to : Pool) (at : ℕ) (bytes : List ℕ) (b : Bool) → IsStoreState s → IsPool s to → nat_lt to.size (at + length bytes) ≡ b
    → IfSome (cond b None (Some (changed (P.written at bytes) s to.offset))) (RowsSame s)
store_on stay s to at bytes true state pool is = tt
store_on stay s to at bytes false state pool is =
    let room = fits_in to.size (at + length bytes) is in
    let wide = pool.2 in
    let keeps : KeepsLength (P.written at bytes) s to.offset (Bytes pool.0) = record { there = pool.1; len = written_len at bytes pool.0 (omega (arith, room, wide)) } in
    let are = changed_rows stay (P.written at bytes) s to.offset (Bytes pool.0) state keeps (bytes_other pool.0) in
    record { ppis = are.ppis; callbacks = are.callbacks; dispatches = are.dispatches; named = refl }

pub store_keeps : BodiesStay → (s : StoreState) (to : Pool) (at : ℕ) (bytes : List ℕ) → IsStoreState s → IsPool s to → IfSome (P.store s to at bytes) (RowsSame s)
store_keeps stay s to at bytes state pool = store_on stay s to at bytes (nat_lt to.size (at + length bytes)) state pool refl

pub pop_keeps : BodiesStay → (s : StoreState) (pendings : List Pending) → IsStoreState s → Each (IsPending s) pendings → IfSome (popped s pendings) (λ told. RowsSame s told.1)
pop_keeps stay s [] state there = tt
pop_keeps stay s (first ∷ rest) state there =
    let keeps : KeepsLength zeroed s first.node Node = record { there = there.0.0; len = refl } in
    let are = changed_rows stay zeroed s first.node Node state keeps node_other in
    record { ppis = are.ppis; callbacks = are.callbacks; dispatches = are.dispatches; named = refl }

move_on : BodiesStay → (s : StoreState) (b : Bool) (to : Option Range) → IsStoreState s → IfSome (cond b None (option_map (migrated_to s) to)) (RowsSame s)
move_on stay s true to state = tt
move_on stay s false None state = tt
move_on stay s false (Some to) state =
    let are = moved_rows stay s to state in
    record { ppis = are.ppis; callbacks = are.callbacks; dispatches = are.dispatches; named = refl }

pub move_keeps : BodiesStay → (s : StoreState) → IsStoreState s → IfSome (migration s) (RowsSame s)
move_keeps stay s state = move_on stay s s.moved s.planned state

-- a state with entries behind those of another
record IsLonger (s t : StoreState) (more : List ℕ) : Type 0 where
  bodies : IsGrown s t
  ppis : descriptors t.ppis ≡ descriptors s.ppis ++ more
  named : Begins (named_rows s) (named_rows t)
  callbacks : t.callbacks ≡ s.callbacks
  dispatches : t.dispatches ≡ s.dispatches

pub map_append : {A B : Type 0} (f : A → B) (xs ys : List A) → map f (xs ++ ys) ≡ map f xs ++ map f ys
map_append f [] ys = refl
map_append f (x ∷ xs) ys = ap (λ l. f x ∷ l) (map_append f xs ys)

pub joined : {A : Type 0} (xs : List A) (y : A) (zs : List A) → (xs ++ y ∷ []) ++ zs ≡ xs ++ (y ∷ zs)
joined [] y zs = refl
joined (x ∷ xs) y zs = ap (λ l. x ∷ l) (joined xs y zs)

pub nothing_more : {A : Type 0} (xs : List A) → xs ++ [] ≡ xs
nothing_more [] = refl
nothing_more (x ∷ xs) = ap (λ l. x ∷ l) (nothing_more xs)

ppis_longer : BodiesStay → (by : ℕ) (list : List Desc) (s : StoreState) → IsLonger s (fold (with_ppi by) s list) (offsets list)
ppis_longer stay by [] s = record {
  bodies = λ place body e. e;
  ppis = sym (nothing_more (descriptors s.ppis));
  named = ([], sym (nothing_more (named_rows s)));
  callbacks = refl;
  dispatches = refl;
}
ppis_longer stay by (d ∷ list) s =
    let later = ppis_longer stay by list (with_ppi by s d) in
    let made : Entry = record { node = next_body s; descriptor = d.offset; by = by } in
    let one = map_append (λ (entry : Entry). entry.descriptor) s.ppis (made ∷ []) in
    let row = map_append named_row s.ppis (made ∷ []) in
    let more : List Indexed = later.named.0 in
    record {
      bodies = λ place body e. later.bodies place body (stay.grown s (pool_of Node) place body e);
      ppis = later.ppis ∙ ap (λ l. l ++ offsets list) one ∙ joined (descriptors s.ppis) d.offset (offsets list);
      named = (named_row made ∷ more, later.named.1 ∙ ap (λ l. l ++ more) row ∙ joined (named_rows s) (named_row made) more);
      callbacks = later.callbacks;
      dispatches = later.dispatches;
    }

pendings_longer : BodiesStay → (by : ℕ) (pairs : List (ℕ × ℕ)) (s t : StoreState) (more : List ℕ) → IsLonger s t more → IsLonger s (fold (with_pending by) t pairs) more
pendings_longer stay by [] s t more longer = longer
pendings_longer stay by (pair ∷ pairs) s t more longer = pendings_longer stay by pairs s (with_pending by t pair) more (record {
  bodies = λ place body e. stay.grown t (pool_of Node) place body (longer.bodies place body e);
  ppis = longer.ppis;
  named = longer.named;
  callbacks = longer.callbacks;
  dispatches = longer.dispatches;
})

longer_rows : (s t : StoreState) (list : List Desc) → IsStoreState s → Each (IsDesc s) list → IsLonger s t (offsets list) → RowsInstalled s t list
longer_rows s t list state there longer =
    let are = grown_rows s t state longer.bodies in
    record {
      descs = descs_stay s t list longer.bodies there;
      ppis = ap (map (row_at t)) longer.ppis ∙ map_append (row_at t) (descriptors s.ppis) (offsets list)
          ∙ ap (λ l. l ++ map (row_at t) (offsets list)) are.ppis ∙ ap (λ l. rows_of s s.ppis ++ l) (descs_rows s t list longer.bodies there);
      callbacks = ap (rows_of t) longer.callbacks ∙ are.callbacks;
      dispatches = ap (rows_of t) longer.dispatches ∙ are.dispatches;
      named = longer.named;
    }

pub install_keeps : BodiesStay → (s : StoreState) (list : List Desc) (by : ℕ) → IsStoreState s → Each (IsDesc s) list → After (λ t. RowsInstalled s t list) (I.install s list by)
install_keeps stay s list by state there =
    let P = λ (t : StoreState). RowsInstalled s t list in
    let need : ℕ = I.node_need (length list) + I.node_need (length (install_pairs s list)) in
    let longer = pendings_longer stay by (install_pairs s list) s (fold (with_ppi by) s list) (offsets list) (ppis_longer stay by list s) in
    let rows = longer_rows s (I.installed s list by) list state there longer in
    refused_or P (not (list_all (λ d. is_ppi (kind_at s d.offset)) list)) F.Bad (in_room s need (Ok (I.install_sweep s list, I.installed s list by)))
    (made_in_room s P need (I.install_sweep s list) (I.installed s list by) rows)
