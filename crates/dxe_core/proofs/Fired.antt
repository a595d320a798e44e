-- The core after a notification has begun.
use Rattle.std.proofs.Common.{◌≡◌, Bool, true, false, cond, List, ◌∷◌, Some, refl, sym, ap, ◌∙◌, subst, nat_le, not, length}
use Rattle.mod_catalog.specs.declared.catalogue.Catalog.{Catalog}
use Rattle.boot_model.specs.{declared.driver.ProtocolNote.ProtocolNote, declared.driver.ProtocolSweep.ProtocolSweep}
use Rattle.boot_model.specs.declared.phase_end.DxeEnd.TheVariants.{Deep}
use Rattle.boot_model.specs.DxeMachine.{DxeMachine, DriverFrame, protocol_frame}
use Rattle.boot_model.specs.DxeStep.{dxe_fired, protocol_begun, swept}
use Rattle.dxe_core.specs.Services.{AreFlags, AreServicesOf, Services}
use Rattle.dxe_core.specs.{Order.IsOrderOf, Standing.DxeCore, Standing.IsCoreOf}

-- the services of a machine are those of another that has the same
pub same_services : (catalog : Catalog) (m later : DxeMachine) (s : Services) → later.handles ≡ m.handles → later.notes ≡ m.notes → later.discovered ≡ m.discovered → later.requested ≡ m.requested
    → AreServicesOf catalog m s → AreServicesOf catalog later s
same_services catalog m later s handles notes discovered requested of = record {
  handles = handles ∙ of.handles;
  notes = notes ∙ of.notes;
  order = subst (λ volumes. IsOrderOf catalog volumes s.order) (sym discovered) of.order;
  requested = subst (λ numbers. AreFlags numbers s.requested) (sym requested) of.requested;
}

-- whether as many frames stand as may
fired_by : (catalog : Catalog) (m : DxeMachine) (note : ProtocolNote) (sweep : ProtocolSweep) (top : DriverFrame) (below : List DriverFrame) (b : Bool) → nat_le 64 (length m.frames) ≡ b
    → dxe_fired catalog m note sweep top below ≡ cond b (record m { ended = Some Deep }) (protocol_begun catalog m note sweep top below)
fired_by catalog m note sweep top below b e = ap (λ t. cond t (record m { ended = Some Deep }) (protocol_begun catalog m note sweep top below)) e

turned : (b : Bool) → not b ≡ true → b ≡ false
turned true e = cc
turned false e = refl

turned_back : (b : Bool) → not b ≡ false → b ≡ true
turned_back true e = refl
turned_back false e = cc

pub fired_begun : (catalog : Catalog) (m : DxeMachine) (note : ProtocolNote) (sweep : ProtocolSweep) (top : DriverFrame) (below : List DriverFrame) (core : DxeCore) → IsCoreOf catalog core m → not (nat_le 64 (length core.frames)) ≡ true
    → dxe_fired catalog m note sweep top below ≡ protocol_begun catalog m note sweep top below
fired_begun catalog m note sweep top below core of room =
    fired_by catalog m note sweep top below false (ap (λ xs. nat_le 64 (length xs)) of.frames ∙ turned (nat_le 64 (length core.frames)) room)

pub fired_deep : (catalog : Catalog) (m : DxeMachine) (note : ProtocolNote) (sweep : ProtocolSweep) (top : DriverFrame) (below : List DriverFrame) (core : DxeCore) → IsCoreOf catalog core m → not (nat_le 64 (length core.frames)) ≡ false
    → dxe_fired catalog m note sweep top below ≡ record m { ended = Some Deep }
fired_deep catalog m note sweep top below core of full =
    fired_by catalog m note sweep top below true (ap (λ xs. nat_le 64 (length xs)) of.frames ∙ turned_back (nat_le 64 (length core.frames)) full)

pub fired_core : (catalog : Catalog) (m : DxeMachine) (note : ProtocolNote) (sweep : ProtocolSweep) (top : DriverFrame) (below : List DriverFrame) (core : DxeCore) (frames : List DriverFrame) (begins : Bool)
    → IsCoreOf catalog core m → m.frames ≡ top ∷ below → begins ≡ true → frames ≡ cond begins (protocol_frame sweep note ∷ swept core.frames sweep) core.frames
    → IsCoreOf catalog (record core { frames = frames }) (protocol_begun catalog m note sweep top below)
fired_core catalog m note sweep top below core frames begins of e begun is = record {
  frames = ap (λ xs. protocol_frame sweep note ∷ swept xs sweep) (sym e ∙ of.frames) ∙ sym (is ∙ ap (λ b. cond b (protocol_frame sweep note ∷ swept core.frames sweep) core.frames) begun);
  services = same_services catalog m (protocol_begun catalog m note sweep top below) core.services refl refl refl refl of.services;
  actions = of.actions;
  running = of.running;
}
