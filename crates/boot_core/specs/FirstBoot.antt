-- What the boot of the machine itself leaves, by its answer: its whole text, or a part of it where the sink fails or memory is wanting.
-- Over a store that takes no memory, memory may be wanting before anything is put, or behind all lines of PEI.
-- Own.
use Rattle.std.specs.Prelude.{◌≡◌, ◌⊎◌, ℕ, Bool, false, List, [], ◌++◌, Some, Result, Ok, Err, ⊤}
use Rattle.std.specs.Io.KnownBytes.{Appends}
use Rattle.boot_io.specs.{Sink.AppendsPart, declared.halt.Halt.Halt}
use Rattle.boot_io.specs.declared.halt.Halt.TheVariants.{Sink, Memory}
use Rattle.boot_trace.specs.Printing.{Texts}
use Rattle.mod_catalog.specs.declared.catalogue.Catalog.{Catalog}
use Rattle.store_model.specs.StoreState.{Board, StoreState}
use Rattle.boot_model.specs.{PeiRun.pei_end, Text.text_of}
use Rattle.pei_dispatch.specs.Ends.{IsLeft}
use Rattle.boot_core.specs.declared.whole.boot.Ran.{Ran}
use Rattle.boot_core.specs.WholeEnd.{IsLeftBehind, boot_text, end_of}

-- by the answer: a value that is as it should be with the whole text, or a part of the text
abbrev pub Tells : {A : Type 0} → (A → Type 0) → List ℕ → Texts → Result A Halt → Type 0
Tells Is text t (Ok answer) = Is answer × Appends t.old t.new text
Tells Is text t (Err halt) = AppendsPart t.old t.new text

-- a boot has come to its end: its result, what PEI left, the handles, and how many starts there were
pub record IsRun {M : Type 0} (stands : M → StoreState → Type 0) (board : Board) (catalog : Catalog) (fuel : ℕ) (ran : Ran M) : Type 0 where
  pub end_is : end_of board catalog fuel ≡ Some ran.«end»
  pub left : IsLeft stands catalog (pei_end board catalog fuel) ran.pei
  pub behind : IsLeftBehind catalog fuel (pei_end board catalog fuel) (pei_end board catalog fuel).ended ran.handles ran.before.starts

-- a boot, from its first line to its last
abbrev pub RunsTo : {M : Type 0} → (M → StoreState → Type 0) → Board → Catalog → ℕ → Texts → Result (Ran M) Halt → Type 0
RunsTo stands board catalog fuel t ran = Tells (IsRun stands board catalog fuel) (boot_text board catalog fuel) t ran

-- nothing was put; or all lines of PEI were, and then a part of what follows
abbrev pub IsOutsidePei : Board → Catalog → ℕ → Texts → Type 0
IsOutsidePei board catalog fuel t =
    Appends t.old t.new [] ⊎ ((part : List ℕ) × Appends t.old t.new (text_of (pei_end board catalog fuel).lines ++ part))

-- where a boot is given up for want of memory
abbrev pub WantsOutsidePei : Bool → Board → Catalog → ℕ → Texts → Halt → Type 0
WantsOutsidePei takes board catalog fuel t Sink = ⊤
WantsOutsidePei takes board catalog fuel t Memory = takes ≡ false → IsOutsidePei board catalog fuel t
