-- A PPI in the place of another.
use Rattle.std.proofs.Common.{◌≡◌, ℕ, suc, ◌+◌, Bool, true, false, not, cond, List, [], ◌∷◌, length, ap, refl, sym, ◌∙◌, arith, Ok, Err, fold, map, slice_set, ◌==◌}
use Rattle.store_model.specs.{declared.state.Body.TheVariants.Node, declared.state.Entry.Entry, declared.store_handle.Desc.Desc}
use Rattle.store_model.specs.{declared.store_handle.DescKind.DescKind, StoreState.StoreState, StoreState.pool_of, Service.in_room}
use Rattle.store_model.specs.declared.store_handle.DescKind.TheVariants.{Ppi, Callback, Dispatch}
use Rattle.store_model.specs.declared.store_handle.StoreFault.TheVariants as F
use Rattle.store_model.specs.StateFacts.{IsDesc, IsDescOf, IsStoreState}
use Rattle.store_model.specs.Service.Descriptor.{is_ppi, kind_at}
use Rattle.store_model.specs.Service.Install as I
use Rattle.store_model.specs.Service.Install.{renamed, place_of, reinstall_pairs, with_pending}
use Rattle.store_laws.specs.{Bodies.BodiesStay, Bodies.IsGrown, Steps.StepsKeepFacts}
use Rattle.mem_store.specs.{Nodes.named_row, Nodes.with_other, Rows.row_at, Rows.rows_of, Serving.After, Serving.RowsReplaced}
use Rattle.mem_store.proofs.{Descs.kind_in, KeepingRows.grown_rows, Services.made_in_room, Services.refused_or}

kind_ppi : (kind : DescKind) → is_ppi kind ≡ true → kind ≡ Ppi
kind_ppi Ppi is = refl
kind_ppi Callback is = absurd (let no : false ≡ true = is in cc)
kind_ppi Dispatch is = absurd (let no : false ≡ true = is in cc)

ppi_is : (s : StoreState) (d : Desc) → IsDesc s d → is_ppi (kind_at s d.offset) ≡ true → IsDescOf s Ppi d
ppi_is s d there is = (there.0, there.1, kind_ppi there.0.kind (sym (ap (λ b. is_ppi (kind_in b)) there.1) ∙ is))

-- a state with pairs queued
record IsQueued (s t : StoreState) : Type 0 where
  bodies : IsGrown s t
  ppis : t.ppis ≡ s.ppis
  callbacks : t.callbacks ≡ s.callbacks
  dispatches : t.dispatches ≡ s.dispatches

queued_on : BodiesStay → (by : ℕ) (pairs : List (ℕ × ℕ)) (s t : StoreState) → IsQueued s t → IsQueued s (fold (with_pending by) t pairs)
queued_on stay by [] s t is = is
queued_on stay by (pair ∷ pairs) s t is = queued_on stay by pairs s (with_pending by t pair) (record {
  bodies = λ place body e. stay.grown t (pool_of Node) place body (is.bodies place body e);
  ppis = is.ppis;
  callbacks = is.callbacks;
  dispatches = is.dispatches;
})

rename_on : (s : StoreState) (b : Bool) (e : Entry) (es rest : List Entry) (place new : ℕ) → rows_of s rest ≡ slice_set (rows_of s es) place (row_at s new)
    → rows_of s (cond b (record e { descriptor = new } ∷ es) (e ∷ rest)) ≡ slice_set (row_at s e.descriptor ∷ rows_of s es) (cond b 0 (1 + place)) (row_at s new)
rename_on s true e es rest place new h = refl
rename_on s false e es rest place new h =
    let more : suc place ≡ 1 + place = omega arith in
    ap (λ l. row_at s e.descriptor ∷ l) h ∙ ap (λ n. slice_set (row_at s e.descriptor ∷ rows_of s es) n (row_at s new)) more

renamed_rows : (s : StoreState) (entries : List Entry) (old new : ℕ) → rows_of s (renamed entries old new) ≡ slice_set (rows_of s entries) (place_of entries old) (row_at s new)
renamed_rows s [] old new = refl
renamed_rows s (e ∷ es) old new = rename_on s (e.descriptor == old) e es (renamed es old new) (place_of es old) new (renamed_rows s es old new)

nodes_on : (b : Bool) (e : Entry) (es rest : List Entry) (place new : ℕ) → map named_row rest ≡ with_other (map named_row es) place new
    → map named_row (cond b (record e { descriptor = new } ∷ es) (e ∷ rest)) ≡ with_other (named_row e ∷ map named_row es) (cond b 0 (1 + place)) new
nodes_on true e es rest place new h = refl
nodes_on false e es rest place new h =
    let more : suc place ≡ 1 + place = omega arith in
    ap (λ l. named_row e ∷ l) h ∙ ap (λ n. with_other (named_row e ∷ map named_row es) n new) more

renamed_nodes : (entries : List Entry) (old new : ℕ) → map named_row (renamed entries old new) ≡ with_other (map named_row entries) (place_of entries old) new
renamed_nodes [] old new = refl
renamed_nodes (e ∷ es) old new = nodes_on (e.descriptor == old) e es (renamed es old new) (place_of es old) new (renamed_nodes es old new)

reinstalled_rows : BodiesStay → StepsKeepFacts → (s : StoreState) (old new : Desc) (by : ℕ) → IsStoreState s → IsDescOf s Ppi new
    → RowsReplaced s (I.reinstalled s old new by) (place_of s.ppis old.offset) new
reinstalled_rows stay steps s old new by state is =
    let u : StoreState = record s { ppis = renamed s.ppis old.offset new.offset } in
    let t : StoreState = fold (with_pending by) u (reinstall_pairs s new) in
    let queued : IsQueued u t =
    queued_on stay by (reinstall_pairs s new) u u (record { bodies = λ place body e. e; ppis = refl; callbacks = refl; dispatches = refl }) in
    let are = grown_rows u t (steps.rename s old new state is) queued.bodies in
    record {
      ppis = ap (rows_of t) queued.ppis ∙ are.ppis ∙ renamed_rows s s.ppis old.offset new.offset;
      callbacks = ap (rows_of t) queued.callbacks ∙ are.callbacks;
      dispatches = ap (rows_of t) queued.dispatches ∙ are.dispatches;
      named = ap (map named_row) queued.ppis ∙ renamed_nodes s.ppis old.offset new.offset;
    }

reinstall_on : BodiesStay → StepsKeepFacts → (s : StoreState) (old new : Desc) (by : ℕ) (b : Bool) → IsStoreState s → IsDesc s new → is_ppi (kind_at s new.offset) ≡ b
    → After (λ t. RowsReplaced s t (place_of s.ppis old.offset) new)
    (cond (not b) (Err F.Bad) (cond (not (I.is_installed s old)) (Err F.Missing)
    (in_room s (I.node_need (length (reinstall_pairs s new))) (Ok (I.reinstall_sweep s old, I.reinstalled s old new by)))))
reinstall_on stay steps s old new by false state there is = tt
reinstall_on stay steps s old new by true state there is =
    let P = λ (t : StoreState). RowsReplaced s t (place_of s.ppis old.offset) new in
    let need : ℕ = I.node_need (length (reinstall_pairs s new)) in
    refused_or P (not (I.is_installed s old)) F.Missing (in_room s need (Ok (I.reinstall_sweep s old, I.reinstalled s old new by)))
    (made_in_room s P need (I.reinstall_sweep s old) (I.reinstalled s old new by) (reinstalled_rows stay steps s old new by state (ppi_is s new there is)))

pub reinstall_keeps : BodiesStay → StepsKeepFacts → (s : StoreState) (old new : Desc) (by : ℕ) → IsStoreState s → IsDesc s new
    → After (λ t. RowsReplaced s t (place_of s.ppis old.offset) new) (I.reinstall s old new by)
reinstall_keeps stay steps s old new by state there = reinstall_on stay steps s old new by (is_ppi (kind_at s new.offset)) state there refl
