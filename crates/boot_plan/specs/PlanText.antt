-- The plan that a text spells, or its first fault (own). A text has exactly one of them, and only one value of it.
use Rattle.std.specs.Prelude.{◌≡◌, ◌⊎◌, ℕ, ◌+◌, ◌<◌, Bool, ◌&&◌, nat_lt, if◌then◌else◌, List, [], ◌∷◌, length, take, slice_index_or, max, Option, Some, None}
use Rattle.boot_plan.specs.{declared.draft.Area.Area, declared.draft.Amount.Amount, declared.plan.Plan.Plan}
use Rattle.boot_plan.specs.{declared.plan.PlanVolume.PlanVolume, declared.fault.PlanFault.PlanFault, declared.fault.PlanCause.PlanCause}
use Rattle.boot_plan.specs.declared.fault.PlanCause.TheVariants.{Missing, Overlap, Room}
use Rattle.boot_plan.specs.{declared.limits.TheConstants.LEAST_TEMP, declared.limits.TheConstants.DEFAULT_FUEL, LineCause.line_cause}
use Rattle.line_words.specs.Line.{lines}
use Rattle.boot_plan.specs.Said.{Said, said, temps, rams, volumes, fuels, pages}

-- what is wrong with the line at a place of the list, given those before it
abbrev pub cause_at : List (List ℕ) → ℕ → Option PlanCause
cause_at lines place = line_cause (said (take place lines)) (slice_index_or lines place [])

-- no line has a fault of its own
abbrev pub AreSound : List (List ℕ) → Type 0
AreSound lines = (place : ℕ) → place < length lines → cause_at lines place ≡ None

-- some address is in both
abbrev pub overlap : Area → Area → Bool
overlap temp ram = nat_lt temp.base (ram.base + ram.size) && nat_lt ram.base (temp.base + temp.size)

-- the page region leaves too little of temporary RAM
abbrev pub room_fault : Area → List Amount → Option PlanFault
room_fault temp [] = None
room_fault temp (pages ∷ others) = if nat_lt temp.size (pages.value + LEAST_TEMP) then Some (record { line = pages.line; cause = Room }) else None

abbrev pub missing : ℕ → Option PlanFault
missing count = Some (record { line = count + 1; cause = Missing })

-- what is wrong with memory: it overlaps, at the later line, or has no room
abbrev pub memory_fault : Area → Area → List Amount → Option PlanFault
memory_fault temp ram pages = if overlap temp ram then Some (record { line = max temp.line ram.line; cause = Overlap }) else room_fault temp pages

-- what is wrong with so many lines as a whole, by their `temp`, `ram`, `volume` and `pages` lines
abbrev pub whole_fault : ℕ → List Area → List Area → List PlanVolume → List Amount → Option PlanFault
whole_fault count [] rams volumes pages = missing count
whole_fault count (temp ∷ temps) [] volumes pages = missing count
whole_fault count (temp ∷ temps) (ram ∷ rams) [] pages = missing count
whole_fault count (temp ∷ temps) (ram ∷ rams) (volume ∷ volumes) pages = memory_fault temp ram pages

-- what is wrong after the last of so many lines, by what they say
abbrev pub end_fault : ℕ → List Said → Option PlanFault
end_fault count said = whole_fault count (temps said) (rams said) (volumes said) (pages said)

-- the value of the one line of a kind, or what holds without one
abbrev pub value_or : ℕ → List Amount → ℕ
value_or default [] = default
value_or default (amount ∷ others) = amount.value

-- the one line of a kind has this span
abbrev pub Gives : List Area → ℕ → ℕ → Type 0
Gives areas base len = (line : ℕ) × (areas ≡ record { line = line; base = base; size = len } ∷ [])

-- what so many lines say makes the plan
pub record Makes (count : ℕ) (all : List Said) (plan : Plan) : Type 0 where
  pub whole : end_fault count all ≡ None
  pub temp : Gives (temps all) plan.temp.base plan.temp.len
  pub ram : Gives (rams all) plan.ram.base plan.ram.len
  pub volumes : volumes all ≡ plan.volumes
  pub fuel : plan.fuel ≡ value_or DEFAULT_FUEL (fuels all)
  pub pages : plan.pages ≡ value_or 0 (pages all)

-- the plan that lines spell
abbrev pub StandFor : List (List ℕ) → Plan → Type 0
StandFor lines plan = AreSound lines × Makes (length lines) (said lines) plan

-- the first line with a fault of its own has this one
pub record IsLineFault (lines : List (List ℕ)) (fault : PlanFault) : Type 0 where
  pub place : ℕ
  pub within : place < length lines
  pub line : fault.line ≡ place + 1
  pub cause : cause_at lines place ≡ Some fault.cause
  pub first : (before : ℕ) → before < place → cause_at lines before ≡ None

-- no line has a fault of its own, and the whole has this one
pub record IsEndFault (lines : List (List ℕ)) (fault : PlanFault) : Type 0 where
  pub sound : AreSound lines
  pub cause : end_fault (length lines) (said lines) ≡ Some fault

-- the plan of a text
abbrev pub IsPlan : List ℕ → Plan → Type 0
IsPlan text plan = StandFor (lines text) plan

-- the first fault of a text
abbrev pub IsPlanFault : List ℕ → PlanFault → Type 0
IsPlanFault text fault = IsLineFault (lines text) fault ⊎ IsEndFault (lines text) fault
