-- A start prints its start line first, in either phase.
use Rattle.std.proofs.Common.{◌≡◌, true, List, [], ◌∷◌, ◌++◌, Option, Some, None, is_some, refl, ap, ◌∙◌}
use Rattle.pi_base.specs.declared.phase.Phase.TheVariants.{Pei, Dxe}
use Rattle.act_code.specs.declared.action.Action.{Action}
use Rattle.mod_catalog.specs.{declared.catalogue.Part.Part, Parts.part_at}
use Rattle.boot_model.specs.{declared.line.Line.Line, Eligible.licence_at}
use Rattle.boot_model.specs.PeiStep.{start_lines, start_line, started_part}
use Rattle.boot_model.specs.DxeStep.{in_dxe_case, driver_started, dxe_start_line}
use Rattle.boot_laws.proofs.{DxeOnce.queue_is, PeiWays.may_has_part, DxeWays.queued_to}
use Rattle.boot_laws.specs.PeiAim as P
use Rattle.boot_laws.specs.DxeAim as D

-- what stands behind a start line
behind_start : (line : Line) (blocks : List (List Action)) → (rest : List Line) × (start_lines line blocks ≡ line ∷ rest)
behind_start line [] = (_, refl)
behind_start line (block ∷ blocks) = ([], refl)

part_is : (o : Option Part) → is_some o ≡ true → (part : Part) × (o ≡ Some part)
part_is None h = cc
part_is (Some part) h = (part, refl)

pub pei_prints : P.PeiStartsPrint
pei_prints catalog m number may =
    let held = part_is (part_at Pei catalog number) (may_has_part catalog m number may) in
    let behind = behind_start (start_line catalog m number (licence_at m number held.0)) held.0.script.blocks in
    record {
      part = held.0;
      part_is = held.1;
      rest = behind.0;
      lines = ap (λ o. (started_part catalog m number o).lines) held.1 ∙ ap (λ lines. m.lines ++ lines) behind.1;
    }

pub dxe_prints : D.DxeStartsPrint
dxe_prints catalog fuel m next queue way case =
    let q = queue_is catalog m next queue case (queued_to catalog m way) in
    let held = part_is (part_at Dxe catalog next.module_number) q.queue_known.0.0 in
    let behind = behind_start (dxe_start_line catalog next.module_number next.licence) held.0.script.blocks in
    record {
      part = held.0;
      part_is = held.1;
      rest = behind.0;
      lines = ap (λ c. (in_dxe_case catalog fuel m c).lines) case ∙ ap (λ o. (driver_started catalog m next queue o).lines) held.1 ∙ ap (λ lines. m.lines ++ lines) behind.1;
    }
