-- A HOB list and the text of commands have one report.
use Rattle.std.proofs.Common.{◌≡◌, ℕ, List, ◌++◌, map, sym, ap, ◌∙◌, subst}
use Rattle.gcd_map.specs.{declared.fault.GcdFault.GcdFault, declared.command.Command.Command, declared.perform.Answer.Answer}
use Rattle.gcd_map.specs.{AddressSpace.MemorySpace, AddressSpace.state_at, CommandText.AreCommands, CommandText.IsFirstBad}
use Rattle.gcd_map.specs.{HobFaults.IsFirstFault, HobMap.IsSpaceOf, OneMap.OneMap, Run.IsRun}
use Rattle.gcd_map.specs.MapText.{answers_text, map_text, hobs_refusal, command_refusal}
use Rattle.tools_core.specs.GcdReport.{GcdReport, MapRun, hobs_refused, command_refused, done}
use Rattle.tools_core.specs.OneOutcome.{IsOne}
use Rattle.tools_core.proofs.OneRun.{one_run}

-- what the memory space map's crate says: bytes tell one space, or have one fault; a text has one list of commands, or one bad line; a space has one map
pub record Laws : Type 0 where
  pub spaces : (bytes : List ℕ) (a b : MemorySpace) → IsSpaceOf bytes a → IsSpaceOf bytes b → a ≡ b
  pub faults : (bytes : List ℕ) (f g : GcdFault) → IsFirstFault bytes f → IsFirstFault bytes g → f ≡ g
  pub space_or_fault : (bytes : List ℕ) (a : MemorySpace) (f : GcdFault) → IsSpaceOf bytes a → IsFirstFault bytes f → ⊥
  pub commands : (text : List ℕ) (a b : List Command) → AreCommands text a → AreCommands text b → a ≡ b
  pub bad_lines : (text : List ℕ) (m n : ℕ) → IsFirstBad text m → IsFirstBad text n → m ≡ n
  pub commands_or_line : (text : List ℕ) (a : List Command) (n : ℕ) → AreCommands text a → IsFirstBad text n → ⊥
  pub maps : OneMap

-- one run, and the text of its answers and of the map that it leaves
one_text : Laws → (bytes text : List ℕ) (p q : MapRun bytes text) → answers_text p.steps ++ map_text p.ranges ≡ answers_text q.steps ++ map_text q.ranges
one_text laws bytes text p q =
    let first : p.first ≡ q.first = laws.spaces bytes p.first q.first p.tells q.tells in
    let same : map (λ (step : Command × Answer). step.0) p.steps ≡ map (λ (step : Command × Answer). step.0) q.steps =
    p.in_order ∙ laws.commands text p.commands q.commands p.are q.are ∙ sym q.in_order in
    let other : IsRun p.first q.steps q.last = subst (λ (s : MemorySpace). IsRun s q.steps q.last) (sym first) q.run in
    let one = one_run p.steps q.steps p.first p.last q.last same p.run other in
    let limit = ap (λ (s : MemorySpace). s.limit) one.1 in
    let ranges : p.ranges ≡ q.ranges = laws.maps p.last q.last p.ranges q.ranges limit (λ address below. ap (λ (s : MemorySpace). state_at s address) one.1) p.shows q.shows in
    ap (λ steps. answers_text steps ++ map_text p.ranges) one.0 ∙ ap (λ ranges. answers_text q.steps ++ map_text ranges) ranges

pub one_map_report : Laws → (bytes text : List ℕ) → IsOne (GcdReport bytes text)
one_map_report laws bytes text a b s t (hobs_refused m real p e u) (hobs_refused n also q f v) = (e ∙ sym f, u ∙ ap hobs_refusal (laws.faults bytes m n p q) ∙ sym v)
one_map_report laws bytes text a b s t (hobs_refused m real p e u) (command_refused space tells n q f v) = absurd (laws.space_or_fault bytes space m tells p)
one_map_report laws bytes text a b s t (hobs_refused m real p e u) (done run f v) = absurd (laws.space_or_fault bytes run.first m run.tells p)
one_map_report laws bytes text a b s t (command_refused space tells m p e u) (hobs_refused n real q f v) = absurd (laws.space_or_fault bytes space n tells q)
one_map_report laws bytes text a b s t (command_refused space tells m p e u) (command_refused other also n q f v) = (e ∙ sym f, u ∙ ap command_refusal (laws.bad_lines text m n p q) ∙ sym v)
one_map_report laws bytes text a b s t (command_refused space tells m p e u) (done run f v) = absurd (laws.commands_or_line text run.commands m run.are p)
one_map_report laws bytes text a b s t (done run e u) (hobs_refused n real q f v) = absurd (laws.space_or_fault bytes run.first n run.tells q)
one_map_report laws bytes text a b s t (done run e u) (command_refused space tells n q f v) = absurd (laws.commands_or_line text run.commands n run.are q)
one_map_report laws bytes text a b s t (done run e u) (done other f v) = (e ∙ sym f, u ∙ one_text laws bytes text run other ∙ sym v)
