-- The notifications of a protocol among those that are registered.
-- Own.
use Rattle.std.specs.Prelude.{ℕ, Bool, false, List, Some, None, slice_get}
use Rattle.pi_base.specs.{declared.guid.Guid.Guid, Guids.same_guid}
use Rattle.boot_model.specs.declared.driver.ProtocolNote.{ProtocolNote}

-- whether the one in a place waits for a protocol
abbrev pub is_note : List ProtocolNote → Guid → ℕ → Bool
is_note notes guid place = elim (slice_get notes place) [ None ↦ false | Some note ↦ same_guid note.guid guid ]
