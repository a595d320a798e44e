-- The first driver of a group that is scheduled, and the lines of its start.
use Rattle.std.proofs.Common.{◌≡◌, ℕ, true, List, [], ◌∷◌, ◌++◌, Option, Some, None, refl, sym, ap, ◌∙◌, subst, is_some}
use Rattle.act_code.specs.declared.action.Action.{Action}
use Rattle.pi_base.specs.{declared.phase.Phase.TheVariants.Dxe, Lists.Each}
use Rattle.mod_catalog.specs.{declared.catalogue.Catalog.Catalog, declared.catalogue.Part.Part, Parts.part_at}
use Rattle.boot_model.specs.{declared.driver.Scheduled.Scheduled, declared.line.Line.Line, DxeChoice.group_scheduled, DxeMachine.DxeMachine}
use Rattle.boot_model.specs.DxeStep.{DxeStarts, dxe_case_of, dxe_start_line, dxe_step, driver_started, in_dxe_case}
use Rattle.boot_model.specs.{DriverLicence.numbers_of, FreeRun.MaySchedule, PeiStep.start_lines}
use Rattle.boot_laws.specs.DxeAim.{GroupsAreAimed, IsChoosing, aimed}
use Rattle.boot_laws.specs.{DxeFree.IsOwnCase, DxeUnderWay.IsDriverOf, DxeUnderWay.IsUnderWay}

-- the first line of a start is the start's
start_first : (line : Line) (blocks : List (List Action)) → (rest : List Line) × (start_lines line blocks ≡ line ∷ rest)
start_first line [] = (_, refl)
start_first line (block ∷ blocks) = (_, refl)

started_lines : (catalog : Catalog) (m : DxeMachine) (next : Scheduled) (queue : List Scheduled) (part : Option Part) → is_some part ≡ true
    → (rest : List Line) × ((driver_started catalog m next queue part).lines ≡ m.lines ++ dxe_start_line catalog next.module_number next.licence ∷ rest)
started_lines catalog m next queue None some = cc
started_lines catalog m next queue (Some part) some =
    let first = start_first (dxe_start_line catalog next.module_number next.licence) part.script.blocks in (first.0, ap (λ lines. m.lines ++ lines) first.1)

-- the first of a group that is scheduled
pub record StartsFirst (catalog : Catalog) (fuel : ℕ) (m : DxeMachine) (root : ℕ) : Type 0 where
  pub first : Scheduled
  pub others : List Scheduled
  pub group : group_scheduled catalog m (Some root) ≡ first ∷ others
  pub case_is : dxe_case_of catalog (aimed catalog m root) ≡ DxeStarts first others
  pub driver : is_some (part_at Dxe catalog first.module_number) ≡ true
  pub rest : List Line
  pub lines : (dxe_step catalog fuel (aimed catalog m root)).lines ≡ m.lines ++ dxe_start_line catalog first.module_number first.licence ∷ rest

pub starts_first : (catalog : Catalog) (fuel : ℕ) (m : DxeMachine) (root : ℕ) → GroupsAreAimed → IsChoosing m → MaySchedule catalog m root → IsUnderWay catalog m → StartsFirst catalog fuel m root
starts_first catalog fuel m root law choosing may way =
    let is = law catalog m root choosing may in
    let first : Scheduled = is.starts.first in
    let others : List Scheduled = is.starts.queue in
    let group : group_scheduled catalog m (Some root) ≡ first ∷ others = is.starts.group in
    let case_is : dxe_case_of catalog (aimed catalog m root) ≡ DxeStarts first others = is.starts.starts in
    let known = subst (λ xs. Each (IsDriverOf catalog m.discovered) (numbers_of xs)) group (is.way way).queue_known in
    let driver = known.0.0 in
    let lines = started_lines catalog (aimed catalog m root) first others (part_at Dxe catalog first.module_number) driver in
    record { first = first; others = others; group = group; case_is = case_is; driver = driver; rest = lines.0; lines = ap (λ c. (in_dxe_case catalog fuel (aimed catalog m root) c).lines) case_is ∙ lines.1 }

-- so it has no choice
pub aimed_owns : (catalog : Catalog) (fuel : ℕ) (m : DxeMachine) (root : ℕ) → StartsFirst catalog fuel m root → IsOwnCase (dxe_case_of catalog (aimed catalog m root)) (aimed catalog m root).scheduled
aimed_owns catalog fuel m root s = subst (λ c. IsOwnCase c (group_scheduled catalog m (Some root))) (sym s.case_is) (λ none. absurd (never (sym s.group ∙ none)))
  where
    never : s.first ∷ s.others ≡ [] → ⊥
    never e = cc
