-- The rows of entries stay where the GUIDs of their descriptors do: behind another body, where one changes that is no descriptor, and in the move.
-- Own.
use Rattle.std.specs.Prelude.{◌≡◌, ◌≢◌, ℕ}
use Rattle.store_model.specs.{declared.state.Body.Body, declared.state.Body.TheVariants.Descriptor}
use Rattle.store_model.specs.{declared.state.DescriptorBody.DescriptorBody, StoreState.Range, StoreState.StoreState}
use Rattle.store_model.specs.{StateFacts.IsStoreState, Migration.migrated_to}
use Rattle.store_laws.specs.Bodies.{IsGrown, KeepsLength, changed}
use Rattle.mem_store.specs.Rows.{rows_of}

-- the rows of each list that has descriptors of its own
pub record RowsAre (s t : StoreState) : Type 0 where
  pub ppis : rows_of t s.ppis ≡ rows_of s s.ppis
  pub callbacks : rows_of t s.callbacks ≡ rows_of s s.callbacks
  pub dispatches : rows_of t s.dispatches ≡ rows_of s s.dispatches

pub record RowsStay : Type 0 where
  pub grown : (s t : StoreState) → IsStoreState s → IsGrown s t → RowsAre s t
  pub changed : (change : Body → Body) (s : StoreState) (place : ℕ) (body : Body) → IsStoreState s → KeepsLength change s place body
      → ((d : DescriptorBody) → body ≢ Descriptor d) → RowsAre s (changed change s place)
  pub moved : (s : StoreState) (to : Range) → IsStoreState s → RowsAre s (migrated_to s to)
