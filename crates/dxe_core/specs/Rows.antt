-- A call answers as its row says. A refusal, and running out of memory, leave the handles as they were.
-- PI 1.8, volume 2, "Protocol Handler Services".
use Rattle.std.specs.Prelude.{◌≡◌, Result, Ok, Err, IsOk, ⊤}
use Rattle.pi_base.specs.declared.word.Word.TheVariants as W
use Rattle.store_model.specs.HandleState.{HandleState, HandleService}
use Rattle.dxe_core.specs.declared.database.fault.HandleFault.{HandleFault}
use Rattle.dxe_core.specs.declared.database.fault.HandleFault.TheVariants as F

abbrev pub IsRow : {A : Type 0} → HandleService A → HandleState → Result A HandleFault → HandleState → Type 0
IsRow row old (Ok answer) new = row ≡ Ok (answer, new)
IsRow row old (Err F.InvalidParameter) new = (row ≡ Err W.InvalidParameter) × (new ≡ old)
IsRow row old (Err F.NotFound) new = (row ≡ Err W.NotFound) × (new ≡ old)
IsRow row old (Err F.Memory) new = IsOk row × (new ≡ old)

abbrev pub TakesNoMemory : {A : Type 0} → Result A HandleFault → Type 0
TakesNoMemory (Ok answer) = ⊤
TakesNoMemory (Err F.InvalidParameter) = ⊤
TakesNoMemory (Err F.NotFound) = ⊤
TakesNoMemory (Err F.Memory) = ⊥
