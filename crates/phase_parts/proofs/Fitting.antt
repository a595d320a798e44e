-- The action at which a frame stands fits its phase, and stands at a place that a block may have.
use Rattle.std.proofs.Common.{◌≡◌, ◌<◌, ◌∙◌, List, [], ◌∷◌, length, Option, Some, None, sym, subst, Bor, IfSome, OnSome, option_copied}
use Rattle.pi_base.specs.declared.phase.Phase.{Phase}
use Rattle.act_code.specs.declared.action.Action.{Action}
use Rattle.mod_catalog.specs.{declared.catalogue.Catalog.Catalog, WellFormed.IsWellFormed}
use Rattle.phase_parts.specs.{Found.found_action, Frames.top_of, Needs.IsScriptAction, Needs.IsWithin}
use Rattle.boot_model.specs.declared.frame.Frame.{Frame}
use Rattle.boot_model.proofs.ScriptActions.{FitsIn, script_action}

pub found_fits : {W : Type 0} (phase : Phase) (catalog : Catalog) (frame : Frame W) (action : Action) → IsWellFormed catalog → found_action phase catalog frame ≡ Some action → FitsIn phase catalog frame.module_number frame.position action
found_fits phase catalog frame action well e = script_action phase catalog frame.module_number frame.block frame.position action well e

pub is_of_phase : {W : Type 0} (phase : Phase) (catalog : Catalog) (frame : Frame W) (found : Option (Bor Action))
    → IsWellFormed catalog → option_copied found ≡ found_action phase catalog frame → IfSome found (λ action. IsScriptAction phase action.now)
is_of_phase phase catalog frame None well e = tt
is_of_phase phase catalog frame (Some action) well e = let script = (found_fits phase catalog frame action.now well (sym e)).fits.script in (script.is, script.indexed)

within : {W : Type 0} (frames : List (Frame W)) (frame : Frame W) → Some frame ≡ top_of frames → frame.position < 1024 → IsWithin frames
within [] frame e h = tt
within (first ∷ below) frame e h = let same : frame ≡ first = cc in subst (λ f. f.position < 1024) same h

pub is_within : {W : Type 0} (phase : Phase) (catalog : Catalog) (frames : List (Frame W)) (frame : Frame W) (found : Option (Bor Action))
    → IsWellFormed catalog → Some frame ≡ top_of frames → option_copied found ≡ found_action phase catalog frame → OnSome found (IsWithin frames)
is_within phase catalog frames frame None well top e = tt
is_within phase catalog frames frame (Some action) well top e = within frames frame top (found_fits phase catalog frame action.now well (sym e)).fits.position

on_top : {W : Type 0} (frames : List (Frame W)) (frame top : Frame W) (below : List (Frame W)) → Some top ≡ top_of frames → frames ≡ frame ∷ below → top ≡ frame
on_top [] frame top below e f = cc
on_top (first ∷ rest) frame top below e f = let one : top ≡ first = cc in let other : first ≡ frame = cc in one ∙ other

pub is_here : {W : Type 0} (phase : Phase) (catalog : Catalog) (frames : List (Frame W)) (frame top : Frame W) (below : List (Frame W)) (found : Option (Bor Action))
    → IsWellFormed catalog → Some top ≡ top_of frames → option_copied found ≡ found_action phase catalog top → frames ≡ frame ∷ below → OnSome found (frame.module_number < length catalog.modules)
is_here phase catalog frames frame top below None well is e f = tt
is_here phase catalog frames frame top below (Some action) well is e f =
    subst (λ x. x.module_number < length catalog.modules) (on_top frames frame top below is f) (found_fits phase catalog top action.now well (sym e)).here
