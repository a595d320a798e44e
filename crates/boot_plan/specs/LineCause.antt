-- What is wrong with a line, given the lines before it (own): Word, then Twice, then Number, then Limit.
use Rattle.std.specs.Prelude.{ℕ, ◌+◌, ◌%◌, Bool, false, ◌&&◌, nat_lt, nat_le, ◌==◌, if◌then◌else◌, List, length, Option, Some, None}
use Rattle.boot_plan.specs.{declared.fault.PlanCause.PlanCause, Form.form_of}
use Rattle.boot_plan.specs.declared.fault.PlanCause.TheVariants.{Word, Number, Twice, Limit}
use Rattle.pi_base.specs.declared.span.TheConstants.{PAGE_LEN}
use Rattle.boot_plan.specs.declared.limits.TheConstants.{LEAST_ADDRESS, MOST_END, VOLUME_ALIGNMENT, LEAST_TEMP, MOST_TEMP, LEAST_RAM, MOST_RAM, MOST_FUEL, MOST_PAGES, MOST_PLAN_VOLUMES}
use Rattle.line_words.specs.Line.{is_passed_over}
use Rattle.boot_plan.specs.Entry.{Entry, Temp, Ram, Volume, Fuel, Pages, read_entry}
use Rattle.boot_plan.specs.Said.{Said, temps, rams, volumes, fuels, pages}

-- a second line of a kind that comes once
abbrev pub is_repeated : List Said → Entry (List ℕ) → Bool
is_repeated before (Temp base size) = nat_lt 0 (length (temps before))
is_repeated before (Ram base size) = nat_lt 0 (length (rams before))
is_repeated before (Volume base name) = false
is_repeated before (Fuel count) = nat_lt 0 (length (fuels before))
is_repeated before (Pages size) = nat_lt 0 (length (pages before))

-- memory of whole pages, of a size between these, from the least address to the greatest end
abbrev pub is_area : ℕ → ℕ → ℕ → ℕ → Bool
is_area least most base size =
    ((((base % PAGE_LEN == 0) && (size % PAGE_LEN == 0)) && nat_le least size) && nat_le size most) && (nat_le LEAST_ADDRESS base && nat_le (base + size) MOST_END)

-- the values are within their limits, and a volume is not the 17th
abbrev pub is_within : List Said → Entry ℕ → Bool
is_within before (Temp base size) = is_area LEAST_TEMP MOST_TEMP base size
is_within before (Ram base size) = is_area LEAST_RAM MOST_RAM base size
is_within before (Volume base name) = ((base % VOLUME_ALIGNMENT == 0) && nat_le LEAST_ADDRESS base) && nat_lt (length (volumes before)) MOST_PLAN_VOLUMES
is_within before (Fuel count) = nat_le 1 count && nat_le count MOST_FUEL
is_within before (Pages size) = (nat_lt 0 size && (size % PAGE_LEN == 0)) && nat_le size MOST_PAGES

-- of numbers that were read
abbrev pub value_cause : List Said → Option (Entry ℕ) → Option PlanCause
value_cause before None = Some Number
value_cause before (Some entry) = if is_within before entry then None else Some Limit

-- of a line's form
abbrev pub form_cause : List Said → Option (Entry (List ℕ)) → Option PlanCause
form_cause before None = Some Word
form_cause before (Some form) = if is_repeated before form then Some Twice else value_cause before (read_entry form)

-- of a line
abbrev pub line_cause : List Said → List ℕ → Option PlanCause
line_cause before line = if is_passed_over line then None else form_cause before (form_of line)
