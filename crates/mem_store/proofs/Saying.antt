-- What an index says of one state and of another.
use Rattle.std.proofs.Common.{◌≡◌, List, ap, ◌∙◌, sym}
use Rattle.mem_store.specs.{declared.guid_index.index.Indexed.Indexed, Rows.rows_of, Serving.RowsSame, declared.index.Index.Index}
use Rattle.store_model.specs.{StoreState.StoreState, StateFacts.IsStoreState}
use Rattle.heap_store.specs.declared.store.HeapStore.{HeapStore}
use Rattle.heap_store.specs.HeapState as H
use Rattle.mem_store.specs.Indexed.{Becomes, Rows, Says, all_rows, held}
use Rattle.mem_store.specs.Nodes.{Follows}
use Rattle.mem_store.proofs.Learning.{still}

pub facts_of : (m : HeapStore) (s : StoreState) → H.StandsFor m s → IsStoreState s
facts_of m s h = h.linked.heap_is.state

abbrev rows : (p c d : List Indexed) → Rows
rows p c d = record { ppis = p; callbacks = c; dispatches = d }

pub three : (p p' c c' d d' : List Indexed) → p ≡ p' → c ≡ c' → d ≡ d' → rows p c d ≡ rows p' c' d'
three p p' c c' d d' e f g = ap (λ x. rows x c d) e ∙ ap (λ x. rows p' x d) f ∙ ap (λ x. rows p' c' x) g

pub same_says : (index : Index) (s t : StoreState) → RowsSame s t → Says index s → Says index t
same_says index s t same says = record {
  rows = λ right. says.rows right
      ∙ sym (three (rows_of t t.ppis) (rows_of s s.ppis) (rows_of t t.callbacks) (rows_of s s.callbacks) (rows_of t t.dispatches) (rows_of s s.dispatches)
      same.ppis same.callbacks same.dispatches);
  named = still index.named s t same.named says.named;
}

-- what an index becomes that was told of a call
pub becomes_says : (old new : Index) (s t : StoreState) (become : Rows) → Becomes old new become → (held old ≡ all_rows s → become ≡ all_rows t)
    → Follows new.named t → Says old s → Says new t
becomes_says old new s t become becomes told named says = record {
  rows = λ right. let was = becomes right in was.1 ∙ told (says.rows was.0);
  named = named;
}
