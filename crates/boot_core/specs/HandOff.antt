-- What PEI hands on: the HOB list that DXE gets, or how PEI ended without a hand-off.
-- PI 1.8, volume 1, "PEI Dispatcher", and volume 3, "HOB List".
use Rattle.std.specs.Prelude.{◌≡◌, ℕ, List, Option, Some, None, Result, IfOk, option_and_then, ⊤}
use Rattle.pi_base.specs.declared.memory.OutOfMemory.{OutOfMemory}
use Rattle.boot_plan.specs.declared.plan.Plan.{Plan}
use Rattle.mod_catalog.specs.{declared.catalogue.Catalog.Catalog, Catalogue.IsCatalogue}
use Rattle.boot_model.specs.{declared.line.RunEnd.RunEnd, declared.phase_end.PeiEnd.PeiEnd, PeiMachine.PeiMachine, PeiRun.pei_end}
use Rattle.boot_model.specs.declared.line.RunEnd.TheVariants as E
use Rattle.boot_model.specs.declared.phase_end.PeiEnd.TheVariants as P
use Rattle.boot_model.specs.PlanBoard.{board_of}
use Rattle.boot_laws.specs.declared.choice.Reached.{Reached}
use Rattle.boot_laws.specs.declared.choice.Reached.TheVariants as R
use Rattle.store_model.specs.HeapImage.{hob_list}
use Rattle.boot_core.specs.declared.handing_on.HandOff.{HandOff}
use Rattle.boot_core.specs.declared.handing_on.HandOff.TheVariants.{Hobs, Ended}

-- the result of a boot whose PEI ended so, where it handed nothing on
abbrev pub result_of : PeiEnd → Option RunEnd
result_of P.Handoff = None
result_of P.NoMemory = Some E.NoMemory
result_of P.NoIpl = Some E.NoIpl
result_of P.Spent = Some E.Spent
result_of P.Deep = Some E.Deep

-- the HOB list of a machine that handed off, byte by byte; or the result of one that did not
abbrev pub HandsOn : PeiMachine → HandOff → Type 0
HandsOn m (Hobs bytes) = (m.ended ≡ Some P.Handoff) × (bytes ≡ hob_list m.store)
HandsOn m (Ended end) = option_and_then result_of m.ended ≡ Some end

-- what is kept of a run of PEI that has reached this: what its last machine hands on, or that memory was wanting for it; nothing is said of one that has not ended
abbrev pub IsKept : Option (Result HandOff OutOfMemory) → PeiMachine → Reached PeiEnd → Type 0
IsKept kept m (R.End how) = (handed : Result HandOff OutOfMemory) × (kept ≡ Some handed) × IfOk handed (HandsOn m)
IsKept kept m (R.Barred number) = ⊤

-- that of the boot of a plan's images
pub record IsHandOff (plan : Plan) (images : List (List ℕ)) (handed : HandOff) : Type 0 where
  pub catalog : Catalog
  pub sound : IsCatalogue plan images catalog
  pub is : HandsOn (pei_end (board_of plan catalog images) catalog plan.fuel) handed
