-- What a draft keeps of the lines so far, and its ranges.
use Rattle.std.specs.Prelude.{◌≡◌, ◌≢◌, ℕ, ◌++◌, ◌∷◌, None, Some, Result, Ok, Err, ◌<◌, ◌≤◌, ◌%◌, List, [], length, All, IfSome, option_to_list}
use Rattle.boot_plan.specs.{declared.draft.Draft.Draft, declared.fault.PlanFault.PlanFault, declared.fault.PlanCause.TheVariants.Memory}
use Rattle.pi_base.specs.declared.span.TheConstants.{PAGE_LEN}
use Rattle.boot_plan.specs.declared.limits.TheConstants.{LEAST_TEMP, MOST_TEMP, LEAST_RAM, MOST_RAM, MOST_FUEL, MOST_PAGES, MOST_PLAN_VOLUMES}
use Rattle.boot_plan.specs.Entry.{Entry, Temp, Ram, Volume, Fuel, Pages}
use Rattle.boot_plan.specs.{LineCause.line_cause, Range.IsSpanInRange, Range.IsVolumeInRange}
use Rattle.boot_plan.specs.Said.{Said, said_from, temps, rams, volumes, fuels, pages}

-- the draft has what the lines say
pub record Keeps (said : List Said) (draft : Draft) : Type 0 where
  pub temp : temps said ≡ option_to_list draft.temp
  pub ram : rams said ≡ option_to_list draft.ram
  pub volumes : volumes said ≡ draft.volumes
  pub fuel : fuels said ≡ option_to_list draft.fuel
  pub pages : pages said ≡ option_to_list draft.pages

-- its values are within their limits
pub record IsInRange (draft : Draft) : Type 0 where
  pub temp : IfSome draft.temp (λ area. IsSpanInRange LEAST_TEMP MOST_TEMP area.base area.size)
  pub ram : IfSome draft.ram (λ area. IsSpanInRange LEAST_RAM MOST_RAM area.base area.size)
  pub few_volumes : length draft.volumes ≤ MOST_PLAN_VOLUMES
  pub volumes : All IsVolumeInRange draft.volumes
  pub fuel : IfSome draft.fuel (λ amount. (1 ≤ amount.value) × (amount.value ≤ MOST_FUEL))
  pub pages : IfSome draft.pages (λ amount. (amount.value % PAGE_LEN ≡ 0) × (amount.value ≤ MOST_PAGES))

-- no earlier line has its kind, if the kind may occur only once
abbrev pub HasPlace : List Said → Entry ℕ → Type 0
HasPlace before (Temp base size) = temps before ≡ []
HasPlace before (Ram base size) = rams before ≡ []
HasPlace before (Volume base name) = Unit {0}
HasPlace before (Fuel count) = fuels before ≡ []
HasPlace before (Pages size) = pages before ≡ []

-- the values of an entry that the draft can take are within their limits
abbrev pub IsEntryInRange : Draft → Entry ℕ → Type 0
IsEntryInRange draft (Temp base size) = IsSpanInRange LEAST_TEMP MOST_TEMP base size
IsEntryInRange draft (Ram base size) = IsSpanInRange LEAST_RAM MOST_RAM base size
IsEntryInRange draft (Volume base name) = IsVolumeInRange (record { base = base; name = name }) × (length draft.volumes < MOST_PLAN_VOLUMES)
IsEntryInRange draft (Fuel count) = (1 ≤ count) × (count ≤ MOST_FUEL)
IsEntryInRange draft (Pages size) = (size % PAGE_LEN ≡ 0) × (size ≤ MOST_PAGES)

-- adding a line with its number gives the draft with it or its fault, unless memory runs out
abbrev pub AddsLine : List Said → ℕ → List ℕ → Result (Unit {0}) PlanFault → Draft → Type 0
AddsLine before number line (Ok _) draft = (line_cause before line ≡ None) × Keeps (before ++ said_from number (line ∷ [])) draft × IsInRange draft
AddsLine before number line (Err fault) draft = fault.cause ≢ Memory → (fault.line ≡ number) × (line_cause before line ≡ Some fault.cause)
