-- Where bodies are: a new one after those that were there, and an old one in its place when another one changes or the store moves. Own.
use Rattle.std.specs.Prelude.{◌≡◌, ◌≢◌, ℕ, ◌+◌, ◌%◌, ◌≤◌, Some, option_map}
use Rattle.store_model.specs.{declared.state.Body.Body, declared.state.HobEntry.HobEntry, StateFacts.IsStoreState}
use Rattle.store_model.specs.StoreState.{Range, StoreState, appended, body_at, body_len, end_place, handoff_len, header_len, next_body, with_body}
use Rattle.store_model.specs.Migration.{migrated_to, moved_body}

-- every body of s is in the same place of t
abbrev pub IsGrown : StoreState → StoreState → Type 0
IsGrown s t = (place : ℕ) (body : Body) → body_at s place ≡ Some body → body_at t place ≡ Some body

-- the state with the body at a place changed
abbrev pub changed : (Body → Body) → StoreState → ℕ → StoreState
changed change s place = record s { hobs = with_body change handoff_len s.hobs place }

-- the change of the body at a place keeps its length
pub record KeepsLength (change : Body → Body) (s : StoreState) (place : ℕ) (body : Body) : Type 0 where
  pub there : body_at s place ≡ Some body
  pub len : body_len (change body) ≡ body_len body

-- the bodies of a state after a step
pub record BodiesStay : Type 0 where
  pub grown : (s : StoreState) (hob : HobEntry) → IsGrown s (appended s hob)
  pub new : (s : StoreState) (hob : HobEntry) → body_at (appended s hob) (next_body s) ≡ Some hob.body
  pub here : (change : Body → Body) (s : StoreState) (place : ℕ) (body : Body) → KeepsLength change s place body
      → body_at (changed change s place) place ≡ Some (change body)
  pub elsewhere : (change : Body → Body) (s : StoreState) (place other : ℕ) (body : Body) → KeepsLength change s place body → other ≢ place
      → body_at (changed change s place) other ≡ body_at s other
  pub moved : (s : StoreState) (to : Range) (place : ℕ) → IsStoreState s
      → body_at (migrated_to s to) place ≡ option_map (moved_body s to place) (body_at s place)

-- a body is after the hand-off HOB and its own header, at a multiple of 8, and ends before the end HOB or at it
pub record IsInside (s : StoreState) (place : ℕ) (body : Body) : Type 0 where
  pub behind : handoff_len + header_len ≤ place
  pub aligned : place % 8 ≡ 0
  pub before : place + body_len body ≤ end_place s

abbrev pub BodiesAreInside : Type 0
BodiesAreInside = (s : StoreState) (place : ℕ) (body : Body) → IsStoreState s → body_at s place ≡ Some body → IsInside s place body
