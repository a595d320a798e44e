-- A text has one reading.
use Rattle.std.proofs.Common.{◌≡◌, ◌≢◌, ℕ, ◌+◌, ◌<◌, ◌≤◌, ◌^◌, List, [], ◌∷◌, length, take, drop, length-drop, ◌-◌, Some, None, Result, Ok, Err, sym, ap, ◌∙◌, subst, arith, inl, inr, IfOk, IfErr, take_all}
use native.Mathlib.Bridge.{le_prop}
use Rattle.std.proofs.{lemmas.Bool.cases_lt, lemmas.Option.same_Some, lemmas.Option.none-some, lemmas.List.nil_from_length}
use Rattle.pi_base.specs.declared.span.Span.{Span}
use Rattle.boot_plan.specs.{declared.draft.Area.Area, declared.draft.Draft.Draft, declared.plan.Plan.Plan}
use Rattle.boot_plan.specs.{declared.plan.PlanVolume.PlanVolume, declared.fault.PlanFault.PlanFault, declared.fault.PlanCause.PlanCause}
use Rattle.boot_plan.specs.{declared.fault.PlanCause.TheVariants.Memory, Draft.Keeps}
use Rattle.line_words.specs.Line.{lines}
use Rattle.boot_plan.specs.Said.{Said, said, temps}
use Rattle.boot_plan.specs.PlanText.{AreSound, Makes, Gives, IsPlan, IsLineFault, IsPlanFault, cause_at, end_fault}

abbrev pub made : (base len : ℕ) → base + len < 2 ^ 64 → Span
made base len h = record { base = base; len = len; in_range = h }

span_same : (a b : Span) → a.base ≡ b.base → a.len ≡ b.len → a ≡ b
span_same a b p q =
    let same : ◌≡◌ {A = ℕ × ℕ} (a.base, a.len) (b.base, b.len) = cc in
    let Same : ℕ × ℕ → Type 0 = λ x. (h : x.0 + x.1 < 2 ^ 64) → a ≡ made x.0 x.1 h in
    subst Same same (λ h. ap (made a.base a.len) (le_prop a.in_range h)) b.in_range

-- two givings of one list are one
gives_same : (areas : List Area) (b l c m : ℕ) → Gives areas b l → Gives areas c m → (b ≡ c) × (l ≡ m)
gives_same areas b l c m g h =
    let first : List Area = record { line = g.0; base = b; size = l } ∷ [] in
    let second : List Area = record { line = h.0; base = c; size = m } ∷ [] in
    let e : first ≡ second = sym g.1 ∙ h.1 in
    let head : (let area : Area = record { line = g.0; base = b; size = l } in area) ≡ record { line = h.0; base = c; size = m } = cc in
    (ap (λ (area : Area). area.base) head, ap (λ (area : Area). area.size) head)

plan_same : (a b : Plan) → a.temp ≡ b.temp → a.ram ≡ b.ram → a.volumes ≡ b.volumes → a.fuel ≡ b.fuel → a.pages ≡ b.pages → a ≡ b
plan_same a b p q r s t =
    let of : Span × Span × List PlanVolume × ℕ × ℕ → Plan = λ x. record { temp = x.0; ram = x.1; volumes = x.2; fuel = x.3; pages = x.4 } in
    let same : ◌≡◌ {A = Span × Span × List PlanVolume × ℕ × ℕ} (a.temp, a.ram, a.volumes, a.fuel, a.pages) (b.temp, b.ram, b.volumes, b.fuel, b.pages) = cc in
    ap of same

pub one_plan : (count : ℕ) (all : List Said) (a b : Plan) → Makes count all a → Makes count all b → a ≡ b
one_plan count all a b m n =
    let t = gives_same (temps all) a.temp.base a.temp.len b.temp.base b.temp.len m.temp n.temp in
    let r = gives_same _ a.ram.base a.ram.len b.ram.base b.ram.len m.ram n.ram in
    plan_same a b (span_same a.temp b.temp t.0 t.1) (span_same a.ram b.ram r.0 r.1) (sym m.volumes ∙ n.volumes) (m.fuel ∙ sym n.fuel) (m.pages ∙ sym n.pages)

fault_same : (a b : PlanFault) → a.line ≡ b.line → a.cause ≡ b.cause → a ≡ b
fault_same a b p q =
    let of : ℕ × PlanCause → PlanFault = λ x. record { line = x.0; cause = x.1 } in
    let same : ◌≡◌ {A = ℕ × PlanCause} (a.line, a.cause) (b.line, b.cause) = cc in
    ap of same

both : (lines : List (List ℕ)) (place : ℕ) (cause : PlanCause) → cause_at lines place ≡ Some cause → cause_at lines place ≡ None → ⊥
both lines place cause s n = none-some cause (sym n ∙ s)

line_faults : (lines : List (List ℕ)) (a b : PlanFault) → IsLineFault lines a → IsLineFault lines b → a ≡ b
line_faults lines a b f g =
    elim (cases_lt f.place g.place) [
      | inl before ↦ absurd (both lines f.place a.cause f.cause (g.first f.place before))
      | inr after ↦ elim (cases_lt g.place f.place) [
        | inl before ↦ absurd (both lines g.place b.cause g.cause (f.first g.place before))
        | inr later ↦
            let same : f.place ≡ g.place = omega arith in
            let causes : cause_at lines f.place ≡ cause_at lines g.place = ap (cause_at lines) same in
            fault_same a b (f.line ∙ ap (λ n. n + 1) same ∙ sym g.line) (same_Some a.cause b.cause (sym f.cause ∙ causes ∙ g.cause))
      ]
    ]

apart : (lines : List (List ℕ)) (a : PlanFault) → IsLineFault lines a → AreSound lines → ⊥
apart lines a f sound = both lines f.place a.cause f.cause (sound f.place f.within)

pub one_fault : (text : List ℕ) (a b : PlanFault) → IsPlanFault text a → IsPlanFault text b → a ≡ b
one_fault text a b (inl f) (inl g) = line_faults (lines text) a b f g
one_fault text a b (inl f) (inr g) = absurd (apart (lines text) a f g.sound)
one_fault text a b (inr f) (inl g) = absurd (apart (lines text) b g f.sound)
one_fault text a b (inr f) (inr g) = same_Some a b (sym f.cause ∙ g.cause)

-- all lines were read
pub read_ok : (r : Result Plan PlanFault) (text : List ℕ) (count : ℕ) (draft : Draft) → count ≡ length (lines text) → AreSound (lines text) → Keeps (said (lines text)) draft
    → IfOk r (λ plan. (all : List Said) → Keeps all draft → Makes count all plan) → IfOk r (IsPlan text)
read_ok (Ok plan) text count draft whole sound keeps made = (sound, rw (← whole) (made (said (lines text)) keeps))
read_ok (Err fault) text count draft whole sound keeps made = tt

pub read_err : (r : Result Plan PlanFault) (text : List ℕ) (count : ℕ) (draft : Draft) → count ≡ length (lines text) → AreSound (lines text) → Keeps (said (lines text)) draft
    → IfErr r (λ fault. (all : List Said) → Keeps all draft → end_fault count all ≡ Some fault) → IfErr r (λ fault. fault.cause ≢ Memory → IsPlanFault text fault)
read_err (Ok plan) text count draft whole sound keeps made = tt
read_err (Err fault) text count draft whole sound keeps made = λ some. inr (record { sound = sound; cause = rw (← whole) (made (said (lines text)) keeps) })

-- nothing is left, so all lines were read
pub ended : (all : List (List ℕ)) (n : ℕ) (rest : List ℕ) → n ≤ length all → drop n all ≡ lines rest → length rest ≡ 0 → (n ≡ length all) × (take n all ≡ all)
ended all n rest low left none =
    let long : length all - n ≡ 0 = sym (length-drop n all) ∙ ap length (left ∙ ap lines (nil_from_length rest none)) in
    (omega arith, take_all n all (omega arith))
