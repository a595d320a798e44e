-- What is told at the end of DXE explains it, and who waits there.
use Rattle.std.proofs.Common.{◌≡◌, ℕ, Bool, true, false, cond, List, [], ◌∷◌, ◌++◌, Option, Some, None, option_map, refl, sym, ap, ◌∙◌, append_assoc, filter, flat_map, option_to_list}
use Rattle.pi_base.specs.{declared.phase.Phase.TheVariants.Dxe, declared.guid.Guid.Guid}
use Rattle.mod_catalog.specs.{declared.catalogue.Part.Part, Parts.part_at, declared.catalogue.Catalog.Catalog}
use Rattle.store_model.specs.{HandleState.has_protocol, StoreState.StoreState}
use Rattle.boot_model.specs.{declared.line.Reason.Reason, DxeChoice.is_waiting, DxeStep.driver_reason, declared.phase_end.DxeEnd.DxeEnd}
use Rattle.boot_reasons.specs.{Needs.needs_of, declared.told.DxeTold.DxeTold, DxeTelling.ExplainsEnd, DxeTelling.held_where}
use Rattle.explain_text.specs.{Change.change_for, declared.reasons.Need.Need, declared.reasons.Giver.Giver, declared.reasons.Held.Held}
use Rattle.explain_text.specs.declared.ways.change.Change.{Change}
use Rattle.boot_model.specs.DxeMachine.{DxeMachine}
use Rattle.dxe_dispatch.specs.Queue.{IsQueueOf, Queue}
use Rattle.dxe_core.specs.Standing.{DxeCore, IsCoreOf}
use Rattle.boot_reasons.specs.DxeReasons.{dxe_giver, dxe_held, dxe_held_at, dxe_held_by}
use Rattle.boot_reasons.specs.Noting.{giver_in}

pub explained_so : {M : Type 0} (stands : M → StoreState → Type 0) (store : M) (catalog : Catalog) (core : DxeCore) (queue : Queue) (told : DxeTold) (how : DxeEnd) (held : List Held) (discovered : List ℕ) (taken : ℕ)
    → ((m : DxeMachine) → IsCoreOf catalog core m → IsQueueOf catalog m queue → held ≡ dxe_held catalog m (giver_in told.givers.map))
    → ((m : DxeMachine) → IsCoreOf catalog core m → discovered ≡ m.discovered) → ((m : DxeMachine) → IsCoreOf catalog core m → taken ≡ m.actions)
    → ExplainsEnd stands store catalog core queue told how (record { «end» = how; begun = told.begun; held = held; discovered = discovered; actions = taken })
explained_so stands store catalog core queue told how held discovered taken waits are counted earlier end ended at is =
    let last : DxeMachine = record end { ended = None } in
    let of : IsCoreOf catalog core last = at.machine.core in
    let same : giver_in told.givers.map ≡ dxe_giver earlier end = λ j guid. is.givers guid j in
    record {
      ended = ended;
      begun = is.begun;
      held = waits last of at.queue ∙ ap (dxe_held catalog end) same;
      discovered = are last of;
      actions_are = counted last of;
    }

-- a driver that waits
pub held_one : (catalog : Catalog) (m : DxeMachine) (giver : Guid → Giver) (number : ℕ) (part : Part) (reason : Reason) (needs : List Need) (change : Option Change) → is_waiting m number ≡ true → part_at Dxe catalog number ≡ Some part
    → reason ≡ driver_reason catalog m number → needs ≡ needs_of giver Dxe part.expr → change ≡ change_for (has_protocol m.handles) Dxe part.expr
    → record { number = number; phase = Dxe; reason = reason; needs = needs; change = change } ∷ [] ≡ held_where (is_waiting m number) (dxe_held_at catalog m giver number)
held_one catalog m giver number part reason needs change waits is why asked lacks =
    let one : record { number = number; phase = Dxe; reason = reason; needs = needs; change = change } ≡ dxe_held_by catalog m giver number part =
    λ j. record { number = number; phase = Dxe; reason = why j; needs = asked j; change = lacks j } in
    ap (λ x. x ∷ []) one ∙ sym (ap (λ o. option_to_list (option_map (dxe_held_by catalog m giver number) o)) is) ∙ sym (ap (λ b. held_where b (dxe_held_at catalog m giver number)) waits)

-- the drivers that are left, one fewer
pub held_on : (catalog : Catalog) (m : DxeMachine) (giver : Guid → Giver) (number : ℕ) (rest : List ℕ) (held one all : List Held) → one ≡ held_where (is_waiting m number) (dxe_held_at catalog m giver number)
    → held ++ flat_map (dxe_held_at catalog m giver) (filter (is_waiting m) (number ∷ rest)) ≡ all → (held ++ one) ++ flat_map (dxe_held_at catalog m giver) (filter (is_waiting m) rest) ≡ all
held_on catalog m giver number rest held one all is was =
    let later = flat_map (dxe_held_at catalog m giver) (filter (is_waiting m) rest) in
    append_assoc held one later ∙ ap (λ xs. held ++ (xs ++ later)) is ∙ ap (λ xs. held ++ xs) (by (is_waiting m number)) ∙ was
  where
    by : (b : Bool) → held_where b (dxe_held_at catalog m giver number) ++ flat_map (dxe_held_at catalog m giver) (filter (is_waiting m) rest) ≡ flat_map (dxe_held_at catalog m giver) (cond b (number ∷ filter (is_waiting m) rest) (filter (is_waiting m) rest))
    by true = refl
    by false = refl
