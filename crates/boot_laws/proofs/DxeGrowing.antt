-- A step of DXE adds lines and takes none away.
use Rattle.std.proofs.Common.{◌≡◌, ℕ, Bool, true, false, cond, List, [], ◌∷◌, ◌++◌, length, nat_le, Option, Some, None, refl, sym, ap, append-nil}
use Rattle.pi_base.specs.declared.phase.Phase.TheVariants.{Dxe}
use Rattle.mod_catalog.specs.{declared.catalogue.Catalog.Catalog, declared.catalogue.Part.Part, Parts.part_at}
use Rattle.boot_model.specs.{declared.driver.Scheduled.Scheduled, declared.line.Line.Line, Discovery.discovery_lines}
use Rattle.boot_model.specs.declared.line.Line.TheVariants as L
use Rattle.boot_model.specs.declared.phase_end.DxeEnd.TheVariants as DxeEnds
use Rattle.boot_model.specs.DxeMachine.{DxeMachine, DriverFrame}
use Rattle.boot_model.specs.DxeAction.{DxeEffect, Wrote, Called, Logged, Skipped, Returned, Own, dxe_effect}
use Rattle.boot_model.specs.DxeStep.{DxeCase, DxeFires, DxeActs, DxeStarts, DxeStops, in_dxe_case, protocol_begun, after_dxe_effect, with_action, dxe_action_at, driver_started}
use Rattle.boot_laws.proofs.DriverCalls.{EffectKeeps, effect_keeps}

-- lines, and perhaps more behind them
abbrev pub Told : List Line → List Line → Type 0
Told before now = (told : List Line) × (now ≡ before ++ told)

pub silent : (lines : List Line) → Told lines lines
silent lines = ([], sym (append-nil lines))

either_told : (lines : List Line) (b : Bool) (one other : DxeMachine) → Told lines one.lines → Told lines other.lines → Told lines (cond b one other).lines
either_told lines true one other h k = h
either_told lines false one other h k = k

effect_told : (m : DxeMachine) (frame : DriverFrame) (below : List DriverFrame) (e : DxeEffect) → EffectKeeps m frame e → Told m.lines (after_dxe_effect m frame below e).lines
effect_told m frame below (Wrote registers status) k = silent m.lines
effect_told m frame below (Called name reply) k =
    let told : List Line = L.Call name reply.status reply.extra ∷ discovery_lines reply.volumes in (told, ap (λ lines. lines ++ told) k.lines)
effect_told m frame below (Logged text) k = (_, refl)
effect_told m frame below (Skipped n) k = silent m.lines
effect_told m frame below (Returned status) k = (_, refl)
effect_told m frame below (Own own) k = absurd own

pub start_told : (catalog : Catalog) (m : DxeMachine) (next : Scheduled) (queue : List Scheduled) (part : Option Part) → Told m.lines (driver_started catalog m next queue part).lines
start_told catalog m next queue None = silent m.lines
start_told catalog m next queue (Some part) = (_, refl)

pub case_told : (catalog : Catalog) (fuel : ℕ) (m : DxeMachine) (case : DxeCase) → Told m.lines (in_dxe_case catalog fuel m case).lines
case_told catalog fuel m (DxeFires note sweep frame below) =
    either_told m.lines (nat_le 64 (length m.frames)) (record m { ended = Some DxeEnds.Deep }) (protocol_begun catalog m note sweep frame below) (silent m.lines) (_, refl)
case_told catalog fuel m (DxeActs frame below) =
    let does : DxeEffect = dxe_effect catalog (with_action m) frame (dxe_action_at catalog frame) in
    either_told m.lines (nat_le fuel m.actions) (record m { ended = Some DxeEnds.Spent }) (after_dxe_effect (with_action m) frame below does) (silent m.lines)
    (effect_told (with_action m) frame below does (effect_keeps catalog (with_action m) frame (dxe_action_at catalog frame)))
case_told catalog fuel m (DxeStarts next queue) = start_told catalog m next queue (part_at Dxe catalog next.module_number)
case_told catalog fuel m DxeStops = (_, refl)
