-- Each text has a reading: its lines are read one after another without want of memory.
use Rattle.std.proofs.Common.{◌≡◌, ◌⊎◌, inl, inr, ℕ, zero, suc, ◌+◌, ◌<◌, ◌≤◌, ◌^◌, Bool, true, false, cond, List, [], ◌∷◌, ◌++◌, length, take, drop, get_or, Option, Some, None, refl, sym, ◌∙◌, arith, below_more, add-one, subst, option_to_list, take_all, append-nil}
use Rattle.std.proofs.{lemmas.List.drop_more, lemmas.List.Elements.All-push, lemmas.List.Elements.All-nil, lemmas.Grind.common_steps}
use Rattle.boot_plan.specs.{declared.draft.Area.Area, declared.draft.Draft.Draft, declared.plan.Plan.Plan}
use Rattle.boot_plan.specs.{declared.plan.PlanVolume.PlanVolume, declared.fault.PlanFault.PlanFault, declared.fault.PlanCause.PlanCause}
use Rattle.boot_plan.specs.declared.fault.PlanCause.TheVariants.{Twice, Limit, Missing}
use Rattle.boot_plan.specs.{declared.limits.TheConstants.DEFAULT_FUEL, Form.form_of, Range.IsSpanInRange, Range.IsVolumeInRange}
use Rattle.line_words.specs.Line.{lines, is_passed_over}
use Rattle.boot_plan.specs.Entry.{Entry, Temp, Ram, Volume, Fuel, Pages, read_entry}
use Rattle.boot_plan.specs.Said.{Said, said, said_from}
use Rattle.boot_plan.specs.LineCause.{is_repeated, is_within, value_cause, form_cause}
use Rattle.boot_plan.specs.Draft.{Keeps, IsInRange, HasPlace, IsEntryInRange}
use Rattle.boot_plan.specs.PlanText.{Makes, IsPlan, IsPlanFault, IsLineFault, cause_at, end_fault, memory_fault, value_or}
use Rattle.boot_plan.proofs.Drafts.{at_line, keeps_temp, keeps_ram, keeps_volume, keeps_fuel, keeps_pages}
use Rattle.boot_plan.proofs.{Adding.added, Finishing.whole_is, Finishing.finished, OneReading.made}
use Rattle.boot_plan.proofs.Reading.{At, at_is, said_more}

-- a draft with an entry more
abbrev with_entry : Draft → ℕ → Entry ℕ → Draft
with_entry d line (Temp base size) = record d { temp = Some (record { line = line; base = base; size = size }) }
with_entry d line (Ram base size) = record d { ram = Some (record { line = line; base = base; size = size }) }
with_entry d line (Volume base name) = record d { volumes = d.volumes ++ record { base = base; name = name } ∷ [] }
with_entry d line (Fuel count) = record d { fuel = Some (record { line = line; value = count }) }
with_entry d line (Pages size) = record d { pages = Some (record { line = line; value = size }) }

keeps_entry : (before : List Said) (d : Draft) (line : ℕ) (entry : Entry ℕ) → Keeps before d → HasPlace before entry → Keeps (before ++ at_line line entry ∷ []) (with_entry d line entry)
keeps_entry before d line (Temp base size) k first = keeps_temp before d line base size k first
keeps_entry before d line (Ram base size) k first = keeps_ram before d line base size k first
keeps_entry before d line (Volume base name) k first = keeps_volume before d line base name k
keeps_entry before d line (Fuel count) k first = keeps_fuel before d line count k first
keeps_entry before d line (Pages size) k first = keeps_pages before d line size k first

range_entry : (d : Draft) (line : ℕ) (entry : Entry ℕ) → IsInRange d → IsEntryInRange d entry → IsInRange (with_entry d line entry)
range_entry d line (Temp base size) r h = record { temp = h; ram = r.ram; few_volumes = r.few_volumes; volumes = r.volumes; fuel = r.fuel; pages = r.pages }
range_entry d line (Ram base size) r h = record { temp = r.temp; ram = h; few_volumes = r.few_volumes; volumes = r.volumes; fuel = r.fuel; pages = r.pages }
range_entry d line (Volume base name) r h = record { temp = r.temp; ram = r.ram; few_volumes = grind (arith, common_steps); volumes = All-push IsVolumeInRange d.volumes _ r.volumes h.0; fuel = r.fuel; pages = r.pages }
range_entry d line (Fuel count) r h = record { temp = r.temp; ram = r.ram; few_volumes = r.few_volumes; volumes = r.volumes; fuel = h; pages = r.pages }
range_entry d line (Pages size) r h = record { temp = r.temp; ram = r.ram; few_volumes = r.few_volumes; volumes = r.volumes; fuel = r.fuel; pages = h }

-- a draft that has what these lines say
abbrev Has : List Said → Type 0
Has said = (d : Draft) × Keeps said d × IsInRange d

abbrev no_cause : Option PlanCause
no_cause = None

-- a sound line has what it says in a draft, by its form, its entry and its values
by_values : (before : List Said) (d : Draft) (number : ℕ) (line : List ℕ) (form : Entry (List ℕ)) (entry : Entry ℕ) (within : Bool)
    → is_passed_over line ≡ false → ◌≡◌ {A = Option (Entry (List ℕ))} (Some form) (form_of line) → false ≡ is_repeated before form → ◌≡◌ {A = Option (Entry ℕ)} (Some entry) (read_entry form)
    → within ≡ is_within before entry → cond within no_cause (Some Limit) ≡ None → Keeps before d → IsInRange d → Has (before ++ said_from number (line ∷ []))
by_values before d number line form entry false passed formed first read is sound k r = absurd cc
by_values before d number line form entry true passed formed first read is sound k r =
    let all = added before d (with_entry d number entry) number line form entry passed formed first read is k r (keeps_entry before d number entry) (range_entry d number entry) in
    (with_entry d number entry, all.1, all.2)

by_entry : (before : List Said) (d : Draft) (number : ℕ) (line : List ℕ) (form : Entry (List ℕ)) (entry : Option (Entry ℕ))
    → is_passed_over line ≡ false → ◌≡◌ {A = Option (Entry (List ℕ))} (Some form) (form_of line) → false ≡ is_repeated before form → entry ≡ read_entry form
    → value_cause before entry ≡ None → Keeps before d → IsInRange d → Has (before ++ said_from number (line ∷ []))
by_entry before d number line form None passed formed first read sound k r = absurd cc
by_entry before d number line form (Some entry) passed formed first read sound k r =
    by_values before d number line form entry (is_within before entry) passed formed first read refl sound k r

by_kind : (before : List Said) (d : Draft) (number : ℕ) (line : List ℕ) (form : Entry (List ℕ)) (repeated : Bool)
    → is_passed_over line ≡ false → ◌≡◌ {A = Option (Entry (List ℕ))} (Some form) (form_of line) → repeated ≡ is_repeated before form
    → cond repeated (Some Twice) (value_cause before (read_entry form)) ≡ None → Keeps before d → IsInRange d → Has (before ++ said_from number (line ∷ []))
by_kind before d number line form true passed formed is sound k r = absurd cc
by_kind before d number line form false passed formed is sound k r = by_entry before d number line form (read_entry form) passed formed is refl sound k r

by_form : (before : List Said) (d : Draft) (number : ℕ) (line : List ℕ) (form : Option (Entry (List ℕ)))
    → is_passed_over line ≡ false → form ≡ form_of line → form_cause before form ≡ None → Keeps before d → IsInRange d → Has (before ++ said_from number (line ∷ []))
by_form before d number line None passed formed sound k r = absurd cc
by_form before d number line (Some form) passed formed sound k r = by_kind before d number line form (is_repeated before form) passed formed refl sound k r

by_line : (before : List Said) (d : Draft) (number : ℕ) (line : List ℕ) (passed : Bool)
    → is_passed_over line ≡ passed → cond passed no_cause (form_cause before (form_of line)) ≡ None → Keeps before d → IsInRange d → Has (before ++ said_from number (line ∷ []))
by_line before d number line true passed sound k r = (d, rw (passed, append-nil before) k, r)
by_line before d number line false passed sound k r = by_form before d number line (form_of line) passed refl sound k r

-- the first so many lines are sound, and a draft has what they say; or one of them has the first fault
abbrev Reads : List (List ℕ) → ℕ → Type 0
Reads all n = ((fault : PlanFault) × IsLineFault all fault) ⊎ (((place : ℕ) → place < n → cause_at all place ≡ None) × Has (said (take n all)))

-- the line at a place, and those behind it
at_place : (all : List (List ℕ)) (n : ℕ) → n < length all → At all n (get_or all n []) (drop (n + 1) all)
at_place all n within = at_is all n (get_or all n []) (drop (n + 1) all) (drop_more all n [] within)

next_line : (all : List (List ℕ)) (n : ℕ) (cause : Option PlanCause) → n < length all → cause_at all n ≡ cause
    → ((place : ℕ) → place < n → cause_at all place ≡ None) → Has (said (take n all)) → Reads all (n + 1)
next_line all n (Some cause) within is sound has = inl (record { line = n + 1; cause = cause }, record { place = n; within = within; line = refl; cause = is; first = sound })
next_line all n None within is sound has =
    let line = get_or all n [] in
    let more = by_line (said (take n all)) has.0 (n + 1) line (is_passed_over line) refl is has.1 has.2 in
    inr (below_more _ n sound is, rw (said_more all n line (drop (n + 1) all) (at_place all n within)) more)

reads : (all : List (List ℕ)) (n : ℕ) → n ≤ length all → Reads all n
reads all zero short = inr (
  λ place h. absurd (omega (arith, h)),
  (
    record { temp = None; ram = None; volumes = []; fuel = None; pages = None },
    record { temp = refl; ram = refl; volumes = refl; fuel = refl; pages = refl },
    record { temp = tt; ram = tt; few_volumes = omega arith; volumes = All-nil _; fuel = tt; pages = tt },
  ),
)
reads all (suc n) short = elim (reads all n (omega (arith, short))) [
  | inl fault ↦ inl fault
  | inr met ↦ subst (Reads all) (add-one n) (next_line all n (cause_at all n) (omega (arith, short)) refl met.0 met.1)
]

-- a plan, or a fault of the whole
abbrev Ends : ℕ → List Said → Type 0
Ends count all = ((fault : PlanFault) × (end_fault count all ≡ Some fault)) ⊎ ((plan : Plan) × Makes count all plan)

with_memory : (count : ℕ) (all : List Said) (d : Draft) (temp ram : Area) (fault : Option PlanFault) → Keeps all d → IsInRange d → d.temp ≡ Some temp → d.ram ≡ Some ram → (d.volumes ≡ [] → ⊥)
    → fault ≡ memory_fault temp ram (option_to_list d.pages) → temp.base + temp.size < 2 ^ 64 → ram.base + ram.size < 2 ^ 64 → Ends count all
with_memory count all d temp ram (Some fault) k r t m v is low high = inl (fault, whole_is count all d temp ram k t m v ∙ sym is)
with_memory count all d temp ram None k r t m v is low high =
    let plan : Plan = record {
      temp = made temp.base temp.size low;
      ram = made ram.base ram.size high;
      volumes = d.volumes;
      fuel = value_or DEFAULT_FUEL (option_to_list d.fuel);
      pages = value_or 0 (option_to_list d.pages);
    } in
    inr (plan, finished count all d temp ram plan k t m v is refl refl refl refl refl refl refl)

fits : (low high base len : ℕ) → IsSpanInRange low high base len → base + len < 2 ^ 64
fits low high base len h = omega (arith, h.end)

with_volumes : (count : ℕ) (all : List Said) (d : Draft) (temp ram : Area) (volumes : List PlanVolume) → Keeps all d → IsInRange d → d.temp ≡ Some temp → d.ram ≡ Some ram → d.volumes ≡ volumes → Ends count all
with_volumes count all d temp ram [] k r t m v = inl (record { line = count + 1; cause = Missing }, rw (k.temp, t, k.ram, m, k.volumes, v) refl)
with_volumes count all d temp ram (volume ∷ volumes) k r t m v =
    let some : d.volumes ≡ [] → ⊥ = λ none. absurd cc in
    with_memory count all d temp ram (memory_fault temp ram (option_to_list d.pages)) k r t m some refl (fits _ _ _ _ (rw t at r.temp)) (fits _ _ _ _ (rw m at r.ram))

with_ram : (count : ℕ) (all : List Said) (d : Draft) (temp : Area) (ram : Option Area) → Keeps all d → IsInRange d → d.temp ≡ Some temp → d.ram ≡ ram → Ends count all
with_ram count all d temp None k r t m = inl (record { line = count + 1; cause = Missing }, rw (k.temp, t, k.ram, m) refl)
with_ram count all d temp (Some ram) k r t m = with_volumes count all d temp ram d.volumes k r t m refl

with_temp : (count : ℕ) (all : List Said) (d : Draft) (temp : Option Area) → Keeps all d → IsInRange d → d.temp ≡ temp → Ends count all
with_temp count all d None k r t = inl (record { line = count + 1; cause = Missing }, rw (k.temp, t) refl)
with_temp count all d (Some temp) k r t = with_ram count all d temp d.ram k r t refl

-- each text has a plan or a first fault
pub some_reading : (text : List ℕ) → ((plan : Plan) × IsPlan text plan) ⊎ ((fault : PlanFault) × IsPlanFault text fault)
some_reading text =
    let all = lines text in
    let whole : take (length all) all ≡ all = take_all (length all) all (omega arith) in
    elim (reads all (length all) (omega arith)) [
      | inl fault ↦ inr (fault.0, inl fault.1)
      | inr met ↦
          let has : Has (said all) = rw whole at met.1 in
          elim (with_temp (length all) (said all) has.0 has.0.temp has.1 has.2 refl) [
            | inl fault ↦ inr (fault.0, inr (record { sound = met.0; cause = fault.1 }))
            | inr plan ↦ inl (plan.0, (met.0, plan.1))
          ]
    ]
