-- What a HOB list and the text of commands lead to: the first fault of the HOB list, the first line that is no command, or the answers and the map.
-- PI 1.8, volume 2, "Global Coherency Domain Services"; the lines are own.
use Rattle.std.specs.Prelude.{◌≡◌, ◌≢◌, ℕ, List, ◌++◌, map}
use Rattle.gcd_map.specs.{declared.fault.GcdFault.GcdFault, declared.fault.GcdCause.TheVariants.Memory, declared.command.Command.Command}
use Rattle.gcd_map.specs.{declared.perform.Answer.Answer, declared.range.GcdRange.GcdRange, AddressSpace.MemorySpace}
use Rattle.gcd_map.specs.{CommandText.AreCommands, CommandText.IsFirstBad, HobMap.IsSpaceOf, HobFaults.IsFirstFault, Run.IsRun}
use Rattle.gcd_map.specs.MapText.{answers_text, map_text, hobs_refusal, command_refusal}
use Rattle.gcd_map.specs.SpaceMap.{IsSpaceMap}
use Rattle.tools_core.specs.declared.status.ToolStatus.{ToolStatus}
use Rattle.tools_core.specs.declared.status.ToolStatus.TheVariants.{Done, HobsRefused, CommandRefused}

-- the commands of the text, run one after another on the memory space of the HOB list, and the one map of the space after them
pub record MapRun (bytes text : List ℕ) : Type 0 where
  pub first : MemorySpace
  pub tells : IsSpaceOf bytes first
  pub commands : List Command
  pub are : AreCommands text commands
  pub steps : List (Command × Answer)
  pub in_order : map (λ step. step.0) steps ≡ commands
  pub last : MemorySpace
  pub run : IsRun first steps last
  pub ranges : List GcdRange
  pub shows : IsSpaceMap last ranges

pub data GcdReport (bytes text : List ℕ) (status : ToolStatus) (out : List ℕ) : Type 0 where
  hobs_refused : (fault : GcdFault) → fault.cause ≢ Memory → IsFirstFault bytes fault → status ≡ HobsRefused → out ≡ hobs_refusal fault
      → GcdReport bytes text status out
  command_refused : (space : MemorySpace) → IsSpaceOf bytes space → (line : ℕ) → IsFirstBad text line → status ≡ CommandRefused
      → out ≡ command_refusal line → GcdReport bytes text status out
  done : (run : MapRun bytes text) → status ≡ Done → out ≡ answers_text run.steps ++ map_text run.ranges → GcdReport bytes text status out
