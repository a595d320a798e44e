-- A step of DXE adds lines and takes none away, and takes no more actions than the fuel lets it.
use Rattle.std.proofs.Common.{◌≡◌, ℕ, ◌+◌, ◌<◌, Bool, true, false, cond, List, [], ◌∷◌, ◌++◌, length, nat_le, Option, Some, None, refl, sym, ap, ◌∙◌, arith, append-nil}
use Rattle.std.proofs.lemmas.Bool.Decides.{nat_tests}
use Rattle.pi_base.specs.declared.phase.Phase.TheVariants.{Dxe}
use Rattle.mod_catalog.specs.{declared.catalogue.Catalog.Catalog, declared.catalogue.Part.Part, Parts.part_at}
use Rattle.boot_model.specs.{declared.driver.Scheduled.Scheduled, declared.line.Line.Line, Discovery.discovery_lines}
use Rattle.boot_model.specs.declared.line.Line.TheVariants as L
use Rattle.boot_model.specs.declared.phase_end.DxeEnd.TheVariants as DxeEnds
use Rattle.boot_model.specs.DxeMachine.{DxeMachine, DriverFrame}
use Rattle.boot_model.specs.DxeAction.{DxeEffect, Wrote, Called, Logged, Skipped, Returned, Own, dxe_effect}
use Rattle.boot_laws.proofs.DriverCalls.{EffectKeeps, effect_keeps}
use Rattle.boot_model.specs.DxeStep.{DxeCase, DxeFires, DxeActs, DxeStarts, DxeStops, dxe_case_of, in_dxe_case, dxe_step, protocol_begun, after_dxe_effect, with_action, dxe_action_at, driver_started}

-- lines may have come, and the actions are fewer than this
pub record Grew (m : DxeMachine) (most : ℕ) (later : DxeMachine) : Type 0 where
  pub told : List Line
  pub lines : later.lines ≡ m.lines ++ told
  pub actions : later.actions < most

silent : (m : DxeMachine) (most : ℕ) (later : DxeMachine) → later.lines ≡ m.lines → later.actions < most → Grew m most later
silent m most later none few = record { told = []; lines = none ∙ sym (append-nil m.lines); actions = few }

either_grew : (m : DxeMachine) (most : ℕ) (b : Bool) (one other : DxeMachine) → Grew m most one → (b ≡ false → Grew m most other) → Grew m most (cond b one other)
either_grew m most true one other h k = h
either_grew m most false one other h k = k refl

effect_grew : (m : DxeMachine) (most : ℕ) (frame : DriverFrame) (below : List DriverFrame) (e : DxeEffect) → EffectKeeps m frame e → m.actions < most → Grew m most (after_dxe_effect m frame below e)
effect_grew m most frame below (Wrote registers status) k few = silent m most (after_dxe_effect m frame below (Wrote registers status)) refl few
effect_grew m most frame below (Called name reply) k few =
    let actions = k.actions in
    let told : List Line = L.Call name reply.status reply.extra ∷ discovery_lines reply.volumes in
    record { told = told; lines = ap (λ lines. lines ++ told) k.lines; actions = omega (arith, actions, few) }
effect_grew m most frame below (Logged text) k few = record { told = _; lines = refl; actions = few }
effect_grew m most frame below (Skipped n) k few = silent m most (after_dxe_effect m frame below (Skipped n)) refl few
effect_grew m most frame below (Returned status) k few = record { told = _; lines = refl; actions = few }
effect_grew m most frame below (Own own) k few = absurd own

start_grew : (catalog : Catalog) (m : DxeMachine) (most : ℕ) (next : Scheduled) (queue : List Scheduled) (part : Option Part) → m.actions < most → Grew m most (driver_started catalog m next queue part)
start_grew catalog m most next queue None few = silent m most (driver_started catalog m next queue None) refl few
start_grew catalog m most next queue (Some part) few = record { told = _; lines = refl; actions = few }

has_fuel : (fuel actions most : ℕ) → nat_le fuel actions ≡ false → fuel < most → actions + 1 < most
has_fuel fuel actions most h few = grind (arith, nat_tests)

case_grew : (catalog : Catalog) (fuel most : ℕ) (m : DxeMachine) (case : DxeCase) → fuel < most → m.actions < most → Grew m most (in_dxe_case catalog fuel m case)
case_grew catalog fuel most m (DxeFires note sweep frame below) bound few =
    either_grew m most (nat_le 64 (length m.frames)) (record m { ended = Some DxeEnds.Deep }) (protocol_begun catalog m note sweep frame below)
    (silent m most (record m { ended = Some DxeEnds.Deep }) refl few) (λ _. record { told = _; lines = refl; actions = few })
case_grew catalog fuel most m (DxeActs frame below) bound few =
    let acting : DxeMachine = with_action m in
    let action = dxe_action_at catalog frame in
    let does : DxeEffect = dxe_effect catalog acting frame action in
    either_grew m most (nat_le fuel m.actions) (record m { ended = Some DxeEnds.Spent }) (after_dxe_effect acting frame below does)
    (silent m most (record m { ended = Some DxeEnds.Spent }) refl few)
    (λ more. let grew = effect_grew acting most frame below does (effect_keeps catalog acting frame action) (has_fuel fuel m.actions most more bound) in
    record { told = grew.told; lines = grew.lines; actions = grew.actions })
case_grew catalog fuel most m (DxeStarts next queue) bound few = start_grew catalog m most next queue (part_at Dxe catalog next.module_number) few
case_grew catalog fuel most m DxeStops bound few = record { told = _; lines = refl; actions = few }

-- a step, where the fuel and the actions that were taken are fewer than this
pub step_grew : (catalog : Catalog) (fuel most : ℕ) (m : DxeMachine) → fuel < most → m.actions < most → Grew m most (dxe_step catalog fuel m)
step_grew catalog fuel most m = case_grew catalog fuel most m (dxe_case_of catalog m)
