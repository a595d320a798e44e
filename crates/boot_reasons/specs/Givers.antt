-- Who has a GUID installed behind the steps of a run: the one that made the step in which it came the last time.
-- Own; PI 1.8 knows the PPIs and the protocols, and not who installed them.
use Rattle.std.specs.Prelude.{ℕ, Bool, if◌then◌else◌, List, [], ◌∷◌, Option, Some, None, option_map}
use Rattle.pi_base.specs.declared.guid.Guid.{Guid}
use Rattle.boot_model.specs.declared.frame.Frame.{Frame}
use Rattle.phase_parts.specs.Frames.{top_of}
use Rattle.explain_text.specs.declared.reasons.Giver.{Giver}
use Rattle.explain_text.specs.declared.reasons.Giver.TheVariants.{Core, Module, Absent}

-- who makes a step: the module whose script runs, and the core where none does
abbrev pub actor_by : Option ℕ → Giver
actor_by None = Core
actor_by (Some number) = Module number

abbrev pub actor_in : {W : Type 0} → List (Frame W) → Giver
actor_in frames = actor_by (option_map (λ frame. frame.module_number) (top_of frames))

-- who has a GUID installed in a machine, behind steps from these ones, the last of them first; at the opening nothing is installed
-- where it was installed before the last step too, it is the one who had it, and else the one who made that step
abbrev pub giver_along : {A : Type 0} → (has : A → Guid → Bool) → (actor : A → Giver) → List A → A → Guid → Giver
giver_along has actor [] m guid = Absent
giver_along has actor (before ∷ earlier) m guid =
    if has m guid then (if has before guid then giver_along has actor earlier before guid else actor before) else Absent
