-- What a draft that is whole makes.
use Rattle.std.proofs.Common.{◌≡◌, ◌≤◌, ℕ, Bool, true, false, cond, List, [], ◌∷◌, length, nat_lt, ◌+◌, ◌%◌, Option, Some, None, refl, sym, ap, subst, arith, ◌∙◌, IfSome, option_to_list}
use Rattle.std.proofs.lemmas.Bool.Decides.{nat_tests}
use Rattle.pi_base.specs.declared.span.TheConstants.{PAGE_LEN}
use Rattle.boot_plan.specs.{declared.draft.Draft.Draft, declared.draft.Area.Area, declared.fault.PlanFault.PlanFault}
use Rattle.boot_plan.specs.{declared.plan.Plan.Plan, declared.plan.PlanVolume.PlanVolume, declared.draft.Amount.Amount}
use Rattle.boot_plan.specs.declared.limits.TheConstants.{DEFAULT_FUEL, LEAST_TEMP, MOST_TEMP, LEAST_RAM, MOST_RAM, MOST_FUEL, MOST_PAGES}
use Rattle.boot_plan.specs.{Said.Said, Said.pages, Draft.Keeps, Draft.IsInRange}
use Rattle.boot_plan.specs.Range.{IsPlanInRange, IsRegionInRange, IsSpanInRange}
use Rattle.boot_plan.specs.PlanText.{Makes, memory_fault, overlap, room_fault, value_or, end_fault}

some_volume : (list : List PlanVolume) → (list ≡ [] → ⊥) → (first : PlanVolume) × (rest : List PlanVolume) × (list ≡ first ∷ rest)
some_volume [] h = absurd (h refl)
some_volume (first ∷ rest) h = (first, rest, refl)

-- what is wrong with a draft that has memory and volumes
pub whole_is : (count : ℕ) (all : List Said) (d : Draft) (temp ram : Area) → Keeps all d → d.temp ≡ Some temp → d.ram ≡ Some ram → (d.volumes ≡ [] → ⊥)
    → end_fault count all ≡ memory_fault temp ram (option_to_list d.pages)
whole_is count all d temp ram k t r v =
    let s = some_volume d.volumes v in
    rw (k.temp, t, k.ram, r, k.volumes, s.2, k.pages) refl

pub finished : (count : ℕ) (all : List Said) (d : Draft) (temp ram : Area) (plan : Plan) → Keeps all d → d.temp ≡ Some temp → d.ram ≡ Some ram → (d.volumes ≡ [] → ⊥)
    → ◌≡◌ {A = Option PlanFault} None (memory_fault temp ram (option_to_list d.pages))
    → plan.temp.base ≡ temp.base → plan.temp.len ≡ temp.size → plan.ram.base ≡ ram.base → plan.ram.len ≡ ram.size → plan.volumes ≡ d.volumes
    → plan.fuel ≡ value_or DEFAULT_FUEL (option_to_list d.fuel) → plan.pages ≡ value_or 0 (option_to_list d.pages)
    → Makes count all plan
finished count all d temp ram plan k t r v sound tb tl rb rl vs fuel pages = record {
  whole = whole_is count all d temp ram k t r v ∙ sym sound;
  temp = (temp.line, rw (k.temp, t, tb, tl) refl);
  ram = (ram.line, rw (k.ram, r, rb, rl) refl);
  volumes = k.volumes ∙ sym vs;
  fuel = rw k.fuel fuel;
  pages = rw k.pages pages;
}

-- a test that gives a fault where it holds does not hold where there is none
not_so : (b : Bool) (fault : PlanFault) (other : Option PlanFault) → ◌≡◌ {A = Option PlanFault} None (cond b (Some fault) other) → b ≡ false
not_so true fault other e = cc
not_so false fault other e = refl

behind : (b : Bool) (fault : PlanFault) (other : Option PlanFault) → ◌≡◌ {A = Option PlanFault} None (cond b (Some fault) other) → ◌≡◌ {A = Option PlanFault} None other
behind true fault other e = cc
behind false fault other e = e

fuel_in_range : (o : Option Amount) → IfSome o (λ amount. (1 ≤ amount.value) × (amount.value ≤ MOST_FUEL))
    → (1 ≤ value_or DEFAULT_FUEL (option_to_list o)) × (value_or DEFAULT_FUEL (option_to_list o) ≤ MOST_FUEL)
fuel_in_range None h = (omega arith, omega arith)
fuel_in_range (Some amount) h = h

region : (o : Option Amount) (temp : Area) → IfSome o (λ amount. (amount.value % PAGE_LEN ≡ 0) × (amount.value ≤ MOST_PAGES)) → LEAST_TEMP ≤ temp.size
    → ◌≡◌ {A = Option PlanFault} None (room_fault temp (option_to_list o)) → IsRegionInRange (value_or 0 (option_to_list o)) temp.size
region None temp h least e = (refl, omega arith, omega (arith, least))
region (Some amount) temp h least e =
    let room : nat_lt temp.size (amount.value + LEAST_TEMP) ≡ false = not_so _ _ _ e in
    (h.0, h.1, grind (arith, nat_tests, room))

-- the ranges of a draft are those of its plan
pub ranged : (d : Draft) (temp ram : Area) (plan : Plan) → IsInRange d → d.temp ≡ Some temp → d.ram ≡ Some ram → (d.volumes ≡ [] → ⊥)
    → ◌≡◌ {A = Option PlanFault} None (memory_fault temp ram (option_to_list d.pages))
    → plan.temp.base ≡ temp.base → plan.temp.len ≡ temp.size → plan.ram.base ≡ ram.base → plan.ram.len ≡ ram.size → plan.volumes ≡ d.volumes
    → plan.fuel ≡ value_or DEFAULT_FUEL (option_to_list d.fuel) → plan.pages ≡ value_or 0 (option_to_list d.pages)
    → IsPlanInRange plan
ranged d temp ram plan range t r v sound tb tl rb rl vs fuel pages =
    let in_temp : IsSpanInRange LEAST_TEMP MOST_TEMP temp.base temp.size = subst (λ o. IfSome o (λ (area : Area). IsSpanInRange LEAST_TEMP MOST_TEMP area.base area.size)) t range.temp in
    let in_ram : IsSpanInRange LEAST_RAM MOST_RAM ram.base ram.size = subst (λ o. IfSome o (λ (area : Area). IsSpanInRange LEAST_RAM MOST_RAM area.base area.size)) r range.ram in
    let apart : overlap temp ram ≡ false = not_so _ _ _ sound in
    let first = some_volume d.volumes v in
    let fuels = fuel_in_range d.fuel range.fuel in
    let room : IsRegionInRange (value_or 0 (option_to_list d.pages)) temp.size = region d.pages temp range.pages in_temp.least (behind _ _ _ sound) in
    record {
      temp = rw (tb, tl) in_temp;
      ram = rw (rb, rl) in_ram;
      apart = λ address a b. grind (arith, nat_tests, apart, a, b, tb, tl, rb, rl);
      some_volume = rw vs (omega (arith, ap length first.2));
      few_volumes = rw vs range.few_volumes;
      volumes = rw vs range.volumes;
      some_fuel = rw fuel fuels.0;
      most_fuel = rw fuel fuels.1;
      pages = rw (pages, tl) room;
    }
