-- The walk over the heap's bytes, as over any HOB list: it gives the HOBs of the state and nothing else, the hand-off HOB first,
-- and ends at the end HOB.
-- PI 1.8, volume 3, "HOB List".
use Rattle.std.specs.Prelude.{◌≡◌, ℕ, ◌+◌, List, [], ◌∷◌, None, ⊤}
use Rattle.hob_codec.specs.{declared.kind.TheConstants.HANDOFF, declared.kind.TheConstants.END, declared.list.HobPlace.HobPlace}
use Rattle.hob_codec.specs.HobList.{Leads, AreHobs, fault_at}
use Rattle.hob_codec.specs.HobReading.{kind_at, body_at}
use Rattle.store_model.specs.{declared.state.HobEntry.HobEntry, StateFacts.IsStoreState}
use Rattle.store_model.specs.StoreState.{StoreState, end_place, handoff_len, header_len, hob_len}
use Rattle.store_model.specs.HeapImage.{body_bytes, handoff_body, heap_image}

-- the HOBs by their places, types and lengths, if the first is at `at`
abbrev pub places_from : ℕ → List HobEntry → List HobPlace
places_from at [] = []
places_from at (hob ∷ hobs) = record { at = at; kind = hob.kind; length = hob_len hob } ∷ places_from (at + hob_len hob) hobs

-- those of a state: the hand-off HOB, and the others after it
abbrev pub hob_places : StoreState → List HobPlace
hob_places s = record { at = 0; kind = HANDOFF; length = handoff_len } ∷ places_from handoff_len s.hobs

-- at each place there is the HOB's body
abbrev pub HaveBodies : StoreState → List ℕ → ℕ → List HobEntry → Type 0
HaveBodies s heap at [] = ⊤
HaveBodies s heap at (hob ∷ hobs) =
    (body_at heap at ≡ body_bytes s (at + header_len) hob.body) × HaveBodies s heap (at + hob_len hob) hobs

-- the bytes are a HOB list, whose HOBs are those of the state
pub record IsHobListOf (s : StoreState) (heap : List ℕ) : Type 0 where
  pub walked : Leads heap 0 (hob_places s) (end_place s)
  pub sound : fault_at heap (end_place s) ≡ None
  pub ends : kind_at heap (end_place s) ≡ END
  pub only : (places : List HobPlace) → AreHobs heap places → places ≡ hob_places s
  pub handoff : body_at heap 0 ≡ handoff_body s
  pub bodies : HaveBodies s heap handoff_len s.hobs

abbrev pub WalksGiveHobs : Type 0
WalksGiveHobs = (s : StoreState) → IsStoreState s → IsHobListOf s (heap_image s)
