-- Whether a driver that a step starts is let.
use Rattle.std.proofs.Common.{◌≡◌, ℕ, Bool, true, List, Some, None, refl, sym, ap, ◌∙◌}
use Rattle.mod_catalog.specs.declared.catalogue.Catalog.{Catalog}
use Rattle.boot_model.specs.{declared.driver.Scheduled.Scheduled, DxeChoice.next_driver, DxeMachine.DxeMachine}
use Rattle.boot_model.specs.DxeStep.{DxeStarts, DxeStops}
use Rattle.boot_laws.proofs.DxeCases.{starts_from}
use Rattle.dxe_core.specs.Steps.{IsIdle}
use Rattle.dxe_dispatch.specs.Turns.{IsStarting, PassesStart, StartsNone}
use Rattle.dxe_dispatch.proofs.Idle.{case_starts, case_stops}

-- the driver that comes next is the one that starts
pub starting : (catalog : Catalog) (m : DxeMachine) (next : Scheduled) (rest : List Scheduled) → IsIdle m → next_driver catalog m ≡ Some (next, rest) → IsStarting catalog m next.module_number
starting catalog m next rest idle found = record { next = next; queue = rest; starts = case_starts catalog m next rest idle found; is = refl }

same_start : (a b : Scheduled) (q r : List Scheduled) → DxeStarts a q ≡ DxeStarts b r → a ≡ b
same_start a b q r e = cc

no_start : (a : Scheduled) (q : List Scheduled) → DxeStarts a q ≡ DxeStops → ⊥
no_start a q e = cc

-- it is let
pub passes : (lets : ℕ → Bool) (catalog : Catalog) (m : DxeMachine) (next : Scheduled) (rest : List Scheduled) → IsIdle m → next_driver catalog m ≡ Some (next, rest) → lets next.module_number ≡ true → PassesStart lets catalog m
passes lets catalog m next rest idle found may number s =
    let same = same_start s.next next s.queue rest (sym s.starts ∙ case_starts catalog m next rest idle found) in
    ap lets (s.is ∙ ap (λ (x : Scheduled). x.module_number) same) ∙ may

-- none starts at the stop
pub stop_starts_none : (catalog : Catalog) (m : DxeMachine) → IsIdle m → next_driver catalog m ≡ None → StartsNone catalog m
stop_starts_none catalog m idle none number s = no_start s.next s.queue (sym s.starts ∙ case_stops catalog m idle none)

-- nor where a script runs
pub busy_starts_none : (catalog : Catalog) (m : DxeMachine) → (IsIdle m → ⊥) → StartsNone catalog m
busy_starts_none catalog m busy number s = busy (starts_from catalog m m.frames s.next s.queue s.starts).0

pub stop_passes : (lets : ℕ → Bool) (catalog : Catalog) (m : DxeMachine) → IsIdle m → next_driver catalog m ≡ None → PassesStart lets catalog m
stop_passes lets catalog m idle none number s = absurd (stop_starts_none catalog m idle none number s)

pub busy_passes : (lets : ℕ → Bool) (catalog : Catalog) (m : DxeMachine) → (IsIdle m → ⊥) → PassesStart lets catalog m
busy_passes lets catalog m busy number s = absurd (busy_starts_none catalog m busy number s)
