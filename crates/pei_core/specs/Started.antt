-- Only modules that have started run scripts: each frame is of one, and the entry of each notification is a block of one.
-- So only a module that has started registers for shadow.
-- Own; PI 1.8, volume 1, `RegisterForShadow()`.
use Rattle.std.specs.Prelude.{◌≡◌, ℕ, ◌/◌, true, List, ⊤}
use Rattle.pi_base.specs.Lists.{Each}
use Rattle.mod_catalog.specs.Parts.{has_number}
use Rattle.store_model.specs.{declared.state.Body.Body, declared.state.HobEntry.HobEntry, declared.store_handle.DescKind.DescKind}
use Rattle.store_model.specs.declared.state.Body.TheVariants.{Bytes, Descriptor, Node, Allocation}
use Rattle.store_model.specs.declared.store_handle.DescKind.TheVariants.{Ppi, Callback, Dispatch}
use Rattle.boot_model.specs.{declared.frame.TheConstants.BLOCKS, PeiMachine.PeiMachine, PeiMachine.Frame}

-- a module is among those that have started
abbrev pub HasStarted : List ℕ → ℕ → Type 0
HasStarted started number = has_number started number ≡ true

-- the number of a notification's descriptor is an entry of one
abbrev pub IsEntryOf : List ℕ → DescKind → ℕ → Type 0
IsEntryOf started Ppi number = ⊤
IsEntryOf started Callback number = HasStarted started (number / BLOCKS)
IsEntryOf started Dispatch number = HasStarted started (number / BLOCKS)

-- a body that is a descriptor has such a number
abbrev pub IsBodyOf : List ℕ → Body → Type 0
IsBodyOf started (Bytes bytes) = ⊤
IsBodyOf started (Descriptor d) = IsEntryOf started d.kind d.number
IsBodyOf started Node = ⊤
IsBodyOf started (Allocation a) = ⊤

-- the running frames, and the descriptors of the heap
pub record AreOfStarted (started : List ℕ) (hobs : List HobEntry) (frames : List Frame) : Type 0 where
  pub bodies : Each (λ hob. IsBodyOf started hob.body) hobs
  pub frames_are : Each (λ frame. HasStarted started frame.module_number) frames

abbrev pub RunsStarted : PeiMachine → Type 0
RunsStarted m = AreOfStarted m.started m.store.hobs m.frames
