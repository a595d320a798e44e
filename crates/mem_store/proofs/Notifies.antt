-- Notifications behind the others of their kinds.
use Rattle.std.proofs.Common.{◌≡◌, ℕ, ◌+◌, Bool, true, false, not, cond, ◌||◌, List, [], ◌∷◌, ◌++◌, length, ap, refl, sym, subst, ◌∙◌, Ok, Err, fold, map}
use Rattle.std.specs.List.{list_any}
use Rattle.pi_base.specs.Lists.{Each}
use Rattle.store_model.specs.{declared.state.Body.TheVariants.Descriptor, declared.state.Body.TheVariants.Node, declared.state.Entry.Entry}
use Rattle.store_model.specs.{declared.store_handle.Desc.Desc, declared.store_handle.DescKind.DescKind}
use Rattle.store_model.specs.declared.store_handle.DescKind.TheVariants.{Ppi, Callback, Dispatch}
use Rattle.store_model.specs.declared.store_handle.StoreFault.TheVariants as F
use Rattle.store_model.specs.{StoreState.StoreState, StoreState.pool_of, StateFacts.IsDesc, StateFacts.IsStoreState, Service.in_room}
use Rattle.store_model.specs.Service.Descriptor.{descriptors, is_callback, is_ppi, kind_at}
use Rattle.store_model.specs.Service.Install.{node_need, with_pending}
use Rattle.store_model.specs.Service.Notify.{new_callbacks, new_dispatches, note_entry, notified, notify, notify_pairs, notify_sweep, with_note, with_note_of}
use Rattle.store_laws.specs.Bodies.{BodiesStay, IsGrown}
use Rattle.mem_store.specs.{Nodes.named_row, Rows.row_at, Rows.rows_of, Serving.After, Serving.RowsNotified}
use Rattle.mem_store.proofs.KeepingRows.{grown_rows}
use Rattle.mem_store.proofs.Descs.{descs_stay, kind_in, picked_rows}
use Rattle.mem_store.proofs.Services.{joined, made_in_room, map_append, nothing_more}

-- a state with notifications behind those of another
record IsNoted (s t : StoreState) (callbacks dispatches : List ℕ) : Type 0 where
  bodies : IsGrown s t
  ppis : t.ppis ≡ s.ppis
  more_callbacks : descriptors t.callbacks ≡ descriptors s.callbacks ++ callbacks
  more_dispatches : descriptors t.dispatches ≡ descriptors s.dispatches ++ dispatches

noted_one : BodiesStay → (kind : DescKind) (by : ℕ) (s : StoreState) (d : Desc) → is_ppi kind ≡ false
    → IsNoted s (with_note_of kind by s d) (cond (is_callback kind) (d.offset ∷ []) []) (cond (not (is_callback kind)) (d.offset ∷ []) [])
noted_one stay Ppi by s d none = absurd (let e : true ≡ false = none in cc)
noted_one stay Callback by s d none = record {
  bodies = stay.grown s (pool_of Node);
  ppis = refl;
  more_callbacks = map_append (λ (entry : Entry). entry.descriptor) s.callbacks (note_entry s d by ∷ []);
  more_dispatches = sym (nothing_more (descriptors s.dispatches));
}
noted_one stay Dispatch by s d none = record {
  bodies = stay.grown s (pool_of Node);
  ppis = refl;
  more_callbacks = sym (nothing_more (descriptors s.callbacks));
  more_dispatches = map_append (λ (entry : Entry). entry.descriptor) s.dispatches (note_entry s d by ∷ []);
}

more_of : (b : Bool) (xs : List ℕ) (x : ℕ) (rest : List ℕ) → (xs ++ cond b (x ∷ []) []) ++ rest ≡ xs ++ cond b (x ∷ rest) rest
more_of true xs x rest = joined xs x rest
more_of false xs x rest = ap (λ l. l ++ rest) (nothing_more xs)

neither : (a b : Bool) → (a || b) ≡ false → (a ≡ false) × (b ≡ false)
neither true b e = absurd (let no : true ≡ false = e in cc)
neither false b e = (refl, e)

notes_on : BodiesStay → (by : ℕ) (list : List Desc) (s u : StoreState) → IsGrown s u → Each (IsDesc s) list → list_any (λ d. is_ppi (kind_at s d.offset)) list ≡ false
    → IsNoted u (fold (with_note by) u list) (new_callbacks s list) (new_dispatches s list)
notes_on stay by [] s u grown there none = record {
  bodies = λ place body e. e;
  ppis = refl;
  more_callbacks = sym (nothing_more (descriptors u.callbacks));
  more_dispatches = sym (nothing_more (descriptors u.dispatches));
}
notes_on stay by (d ∷ list) s u grown there none =
    let parts = neither (is_ppi (kind_at s d.offset)) (list_any (λ d. is_ppi (kind_at s d.offset)) list) none in
    let kind : DescKind = kind_at s d.offset in
    let same : kind_at u d.offset ≡ kind_at s d.offset = ap kind_in (grown d.offset (Descriptor there.0.0) there.0.1 ∙ sym there.0.1) in
    let first : IsNoted u (with_note by u d) (cond (is_callback (kind_at s d.offset)) (d.offset ∷ []) []) (cond (not (is_callback (kind_at s d.offset))) (d.offset ∷ []) []) =
    subst (λ k. IsNoted u (with_note_of k by u d) (cond (is_callback (kind_at s d.offset)) (d.offset ∷ []) []) (cond (not (is_callback (kind_at s d.offset))) (d.offset ∷ []) []))
    (sym same) (noted_one stay (kind_at s d.offset) by u d parts.0) in
    let later = notes_on stay by list s (with_note by u d) (λ place body e. first.bodies place body (grown place body e)) there.1 parts.1 in
    record {
      bodies = λ place body e. later.bodies place body (first.bodies place body e);
      ppis = later.ppis ∙ first.ppis;
      more_callbacks = later.more_callbacks ∙ ap (λ l. l ++ new_callbacks s list) first.more_callbacks
          ∙ more_of (is_callback (kind_at s d.offset)) (descriptors u.callbacks) d.offset (new_callbacks s list);
      more_dispatches = later.more_dispatches ∙ ap (λ l. l ++ new_dispatches s list) first.more_dispatches
          ∙ more_of (not (is_callback (kind_at s d.offset))) (descriptors u.dispatches) d.offset (new_dispatches s list);
    }

queued_on : BodiesStay → (by : ℕ) (pairs : List (ℕ × ℕ)) (s t : StoreState) (cs ds : List ℕ) → IsNoted s t cs ds → IsNoted s (fold (with_pending by) t pairs) cs ds
queued_on stay by [] s t cs ds is = is
queued_on stay by (pair ∷ pairs) s t cs ds is = queued_on stay by pairs s (with_pending by t pair) cs ds (record {
  bodies = λ place body e. stay.grown t (pool_of Node) place body (is.bodies place body e);
  ppis = is.ppis;
  more_callbacks = is.more_callbacks;
  more_dispatches = is.more_dispatches;
})

noted_rows : (s t : StoreState) (list : List Desc) → IsStoreState s → Each (IsDesc s) list → IsNoted s t (new_callbacks s list) (new_dispatches s list) → RowsNotified s t list
noted_rows s t list state there noted =
    let are = grown_rows s t state noted.bodies in
    record {
      descs = descs_stay s t list noted.bodies there;
      ppis = ap (rows_of t) noted.ppis ∙ are.ppis;
      callbacks = ap (map (row_at t)) noted.more_callbacks ∙ map_append (row_at t) (descriptors s.callbacks) (new_callbacks s list)
          ∙ ap (λ l. l ++ map (row_at t) (new_callbacks s list)) are.callbacks
          ∙ ap (λ l. rows_of s s.callbacks ++ l) (picked_rows s t (λ place. is_callback (kind_at s place)) list noted.bodies there);
      dispatches = ap (map (row_at t)) noted.more_dispatches ∙ map_append (row_at t) (descriptors s.dispatches) (new_dispatches s list)
          ∙ ap (λ l. l ++ map (row_at t) (new_dispatches s list)) are.dispatches
          ∙ ap (λ l. rows_of s s.dispatches ++ l) (picked_rows s t (λ place. not (is_callback (kind_at s place))) list noted.bodies there);
      named = ap (map named_row) noted.ppis;
    }

notify_on : BodiesStay → (s : StoreState) (list : List Desc) (by : ℕ) (b : Bool) → IsStoreState s → Each (IsDesc s) list
    → list_any (λ d. is_ppi (kind_at s d.offset)) list ≡ b
    → After (λ t. RowsNotified s t list) (cond b (Err F.Bad)
    (in_room s (node_need (length list) + node_need (length (notify_pairs s list))) (Ok (notify_sweep s list, notified s list by))))
notify_on stay s list by true state there is = tt
notify_on stay s list by false state there is =
    let P = λ (t : StoreState). RowsNotified s t list in
    let noted = queued_on stay by (notify_pairs s list) s (fold (with_note by) s list) (new_callbacks s list) (new_dispatches s list)
    (notes_on stay by list s s (λ place body e. e) there is) in
    made_in_room s P (node_need (length list) + node_need (length (notify_pairs s list))) (notify_sweep s list) (notified s list by)
    (noted_rows s (notified s list by) list state there noted)

pub notify_keeps : BodiesStay → (s : StoreState) (list : List Desc) (by : ℕ) → IsStoreState s → Each (IsDesc s) list → After (λ t. RowsNotified s t list) (notify s list by)
notify_keeps stay s list by state there = notify_on stay s list by (list_any (λ d. is_ppi (kind_at s d.offset)) list) state there refl
