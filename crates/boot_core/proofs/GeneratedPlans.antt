-- The plan of a generated volume, by its parts.
use native.Mathlib.Bridge.{le_prop}
use Rattle.std.proofs.Common.{◌≡◌, ℕ, ◌+◌, ◌<◌, ◌^◌, List, [], ◌∷◌, ◌++◌, ap, ◌∙◌, codes}
use Rattle.pi_base.specs.declared.span.Span.{Span}
use Rattle.boot_plan.specs.{declared.plan.Plan.Plan, declared.plan.PlanVolume.PlanVolume}
use Rattle.boot_core.specs.GeneratedOutcome.{generated_plan}

abbrev span : (base len : ℕ) → base + len < 2 ^ 64 → Span
span base len h = record { base = base; len = len; in_range = h }

abbrev plan_of : Span → Span → List PlanVolume → Plan
plan_of temp ram volumes = record { temp = temp; ram = ram; volumes = volumes; fuel = 100000; pages = 0 }

pub plan_is : (t : 0x80000000 + 0x10000 < 2 ^ 64) (r : 0x40000000 + 0x4000000 < 2 ^ 64) (volumes : List PlanVolume) → volumes ≡ generated_plan.volumes
    → plan_of (span 0x80000000 0x10000 t) (span 0x40000000 0x4000000 r) volumes ≡ generated_plan
plan_is t r volumes e =
    ap (λ h. plan_of (span 0x80000000 0x10000 h) (span 0x40000000 0x4000000 r) volumes) (le_prop t generated_plan.temp.in_range)
    ∙ ap (λ h. plan_of generated_plan.temp (span 0x40000000 0x4000000 h) volumes) (le_prop r generated_plan.ram.in_range)
    ∙ ap (λ v. plan_of generated_plan.temp generated_plan.ram v) e

-- one volume, of this name
pub volumes_are : (name none : List ℕ) (volumes before : List PlanVolume) → none ≡ [] → name ≡ none ++ codes "generated" → before ≡ []
    → volumes ≡ before ++ (record { base = 0xff000000; name = name }) ∷ [] → volumes ≡ generated_plan.volumes
volumes_are name none volumes before p q r e =
    let named : name ≡ codes "generated" = q ∙ ap (λ x. x ++ codes "generated") p in
    let one : List ℕ → PlanVolume = λ x. record { base = 0xff000000; name = x } in
    e ∙ ap (λ vs. vs ++ one name ∷ []) r ∙ ap (λ x. one x ∷ []) named
