-- The lines of the HOBs, by where they stand in the heap.
-- PI 1.8, volume 3 (the HOB list); the lines are own.
use Rattle.std.specs.Prelude.{◌≡◌, length, ℕ, ◌+◌, ◌==◌, if◌then◌else◌, List, [], ◌∷◌, Option, Some, None}
use Rattle.hob_codec.specs.declared.kind.TheConstants.{HANDOFF}
use Rattle.boot_model.specs.declared.line.Line.{Line}
use Rattle.boot_model.specs.declared.line.Line.TheVariants as L
use Rattle.store_model.specs.{declared.state.Body.TheVariants.Bytes, declared.state.HobEntry.HobEntry}
use Rattle.store_model.specs.StoreState.{StoreState, end_place, hob_len, header_len}
use Rattle.boot_trace.specs.declared.store_hobs.HobCount.{HobCount}
use Rattle.store_model.specs.HeapImage.{handoff_body, body_bytes}

-- the hand-off HOB, as an entry
abbrev pub handoff_hob : StoreState → HobEntry
handoff_hob s = record { kind = HANDOFF; body = Bytes (handoff_body s) }

-- all HOBs but the end HOB
abbrev pub all_hobs : StoreState → List HobEntry
all_hobs s = handoff_hob s ∷ s.hobs

-- the line of the HOB at an offset, where the first of these stands at `at`
abbrev pub hob_line_from : StoreState → ℕ → List HobEntry → ℕ → Option Line
hob_line_from s at [] offset = None
hob_line_from s at (hob ∷ hobs) offset =
    if at == offset then Some (L.Hob hob.kind (body_bytes s (at + header_len) hob.body)) else hob_line_from s (at + hob_len hob) hobs offset

-- the line of the HOB at an offset of the heap, the hand-off HOB at 0
abbrev pub hob_line_at : StoreState → ℕ → Option Line
hob_line_at s offset = hob_line_from s 0 (all_hobs s) offset

-- as many HOBs as there are but the end HOB, which stands behind them
pub record IsHobCount (count : HobCount) (s : StoreState) : Type 0 where
  pub hobs_are : count.hobs ≡ length (all_hobs s)
  pub end_is : count.end ≡ end_place s
