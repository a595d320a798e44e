-- The ranges that each plan keeps (own), for the calls that take one.
use Rattle.std.specs.Prelude.{◌≡◌, ℕ, ◌+◌, ◌%◌, ◌≤◌, List, length, All}
use Rattle.pi_base.specs.{Span.AreDisjoint, declared.span.TheConstants.PAGE_LEN}
use Rattle.boot_plan.specs.declared.limits.TheConstants.{LEAST_ADDRESS, MOST_END, VOLUME_ALIGNMENT, LEAST_TEMP, MOST_TEMP, LEAST_RAM, MOST_RAM, MOST_FUEL, MOST_PAGES, MOST_PLAN_VOLUMES, MOST_NAME}
use Rattle.boot_plan.specs.{declared.plan.Plan.Plan, declared.plan.PlanVolume.PlanVolume}

-- memory of whole pages, of a size between these, from the least address to the greatest end
pub record IsSpanInRange (low high base len : ℕ) : Type 0 where
  pub base_of_pages : base % PAGE_LEN ≡ 0
  pub len_of_pages : len % PAGE_LEN ≡ 0
  pub least : low ≤ len
  pub most : len ≤ high
  pub address : LEAST_ADDRESS ≤ base
  pub end : base + len ≤ MOST_END

-- a name of 1 to 255 visible characters, which is ASCII text
pub record IsName (name : List ℕ) : Type 0 where
  pub some : 1 ≤ length name
  pub short : length name ≤ MOST_NAME
  pub visible : All (λ byte. (0x21 ≤ byte) × (byte ≤ 0x7e)) name

-- a volume at a multiple of 8 from the least address on
pub record IsVolumeInRange (volume : PlanVolume) : Type 0 where
  pub aligned : volume.base % VOLUME_ALIGNMENT ≡ 0
  pub address : LEAST_ADDRESS ≤ volume.base
  pub name : IsName volume.name

-- no page region, or one of whole pages that leaves the heap enough of temporary RAM
abbrev pub IsRegionInRange : ℕ → ℕ → Type 0
IsRegionInRange pages temp_len = (pages % PAGE_LEN ≡ 0) × (pages ≤ MOST_PAGES) × (pages + LEAST_TEMP ≤ temp_len)

pub record IsPlanInRange (plan : Plan) : Type 0 where
  pub temp : IsSpanInRange LEAST_TEMP MOST_TEMP plan.temp.base plan.temp.len
  pub ram : IsSpanInRange LEAST_RAM MOST_RAM plan.ram.base plan.ram.len
  pub apart : AreDisjoint plan.temp plan.ram
  pub some_volume : 1 ≤ length plan.volumes
  pub few_volumes : length plan.volumes ≤ MOST_PLAN_VOLUMES
  pub volumes : All IsVolumeInRange plan.volumes
  pub some_fuel : 1 ≤ plan.fuel
  pub most_fuel : plan.fuel ≤ MOST_FUEL
  pub pages : IsRegionInRange plan.pages plan.temp.len
