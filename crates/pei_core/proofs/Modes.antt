-- The action that gets the boot mode has the form 0, and each other form sets it.
use Rattle.std.proofs.Common.{◌≡◌, ℕ, zero, suc, refl, subst, sym}
use Rattle.act_code.specs.declared.action.Action.TheVariants as A
use Rattle.store_model.specs.StoreState.{StoreState}
use Rattle.boot_model.specs.{PeiMachine.Frame, PeiAction.effect}
use Rattle.pei_core.specs.{declared.taken.Taken.Taken, Taken.Does}

pub gets : (s : StoreState) (frame : Frame) (form r : ℕ) (taken : Taken) → form ≡ 0
    → Does (effect s frame (A.BootMode 0 r)) s frame.registers taken s → Does (effect s frame (A.BootMode form r)) s frame.registers taken s
gets s frame form r taken e does = subst (λ n. Does (effect s frame (A.BootMode n r)) s frame.registers taken s) (sym e) does

pub sets : (s new : StoreState) (frame : Frame) (form r : ℕ) (taken : Taken) → (form ≡ 0 → ⊥)
    → Does (effect s frame (A.BootMode 1 r)) s frame.registers taken new → Does (effect s frame (A.BootMode form r)) s frame.registers taken new
sets s new frame zero r taken e does = absurd (e refl)
sets s new frame (suc form) r taken e does = does
