-- The lists that are printed after a run, each after its count: PPIs, callbacks, dispatch notifications, queued pairs and HOBs of the last state.
-- Own.
use Rattle.std.specs.Prelude.{ℕ, ◌+◌, ◌/◌, ◌%◌, List, [], ◌∷◌, ◌++◌, length, map}
use Rattle.hob_codec.specs.declared.kind.TheConstants.{HANDOFF}
use Rattle.boot_model.specs.{declared.frame.TheConstants.BLOCKS, declared.line.Line.Line}
use Rattle.boot_model.specs.declared.line.Line.TheVariants as L
use Rattle.store_model.specs.StoreState.{StoreState, hob_len, header_len, handoff_len}
use Rattle.store_model.specs.{declared.state.Entry.Entry, declared.state.HobEntry.HobEntry, declared.state.Pending.Pending}
use Rattle.store_model.specs.{HeapImage.handoff_body, HeapImage.body_bytes, Service.Descriptor.guid_at, Service.Descriptor.number_at}

-- a PPI: its maker, its GUID and its value
abbrev pub ppi_line : StoreState → Entry → Line
ppi_line s entry = L.Ppi entry.by (guid_at s entry.descriptor) (number_at s entry.descriptor)

-- a callback: its GUID, and the module and the block that it runs
abbrev pub callback_line : StoreState → Entry → Line
callback_line s entry = L.Callback (guid_at s entry.descriptor) (number_at s entry.descriptor / BLOCKS) (number_at s entry.descriptor % BLOCKS)

-- a dispatch notification, in the same way
abbrev pub dispatch_line : StoreState → Entry → Line
dispatch_line s entry = L.Dispatch (guid_at s entry.descriptor) (number_at s entry.descriptor / BLOCKS) (number_at s entry.descriptor % BLOCKS)

-- a queued pair: the PPI's GUID, and the module and the block of the notification
abbrev pub pending_line : StoreState → Pending → Line
pending_line s pending = L.Pending (guid_at s pending.ppi) (number_at s pending.descriptor / BLOCKS) (number_at s pending.descriptor % BLOCKS)

-- the PPIs in order of installing
abbrev pub ppi_lines : StoreState → List Line
ppi_lines s = L.Ppis (length s.ppis) ∷ map (ppi_line s) s.ppis

-- the callbacks in order of registration
abbrev pub callback_lines : StoreState → List Line
callback_lines s = L.Callbacks (length s.callbacks) ∷ map (callback_line s) s.callbacks

-- the dispatch notifications in order of registration
abbrev pub dispatch_lines : StoreState → List Line
dispatch_lines s = L.Dispatches (length s.dispatches) ∷ map (dispatch_line s) s.dispatches

-- the queued pairs, first in first
abbrev pub pending_lines : StoreState → List Line
pending_lines s = L.Pendings (length s.pendings) ∷ map (pending_line s) s.pendings

-- the HOBs, of which the first is at `at`
abbrev pub hob_lines_from : StoreState → ℕ → List HobEntry → List Line
hob_lines_from s at [] = []
hob_lines_from s at (hob ∷ hobs) = L.Hob hob.kind (body_bytes s (at + header_len) hob.body) ∷ hob_lines_from s (at + hob_len hob) hobs

-- the hand-off HOB and the others, without the end HOB
abbrev pub hob_lines : StoreState → List Line
hob_lines s = L.Hobs (length s.hobs + 1) ∷ L.Hob HANDOFF (handoff_body s) ∷ hob_lines_from s handoff_len s.hobs

-- all lists of a store
abbrev pub store_lines : StoreState → List Line
store_lines s = ppi_lines s ++ callback_lines s ++ dispatch_lines s ++ pending_lines s ++ hob_lines s
