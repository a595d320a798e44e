use Rattle.std.proofs.Common.{◌≡◌, sym, ap, ◌∙◌, subst, ◌∷◌}
use Rattle.boot_model.specs.{Discovery.discovery_lines, Text.text_of}
use Rattle.std.specs.Io.KnownBytes.{Appends}
use Rattle.boot_io.specs.Sink as Sinks
use Rattle.dxe_core.specs.{Order.Drivers, Parts.acted_to, Standing.DxeCore, Standing.StandsFor}
use Rattle.dxe_core.specs.Services.{AreCounted, AreServicesFor, AreServicesOf}
use Rattle.dxe_core.proofs.DriverLines.{action_prints}
use Rattle.dxe_core.proofs.Going.{none_put, part_put, stepped, takes_fail}
use Rattle.dxe_core.proofs.Owned.{call_line, replied, top_is}
use Rattle.dxe_core.proofs.dxe.Dxe.act_own.Goals as goal

pub take_own-requires-clause-made : goal.take_own-requires-clause-made
take_own-requires-clause-made g c = subst (λ (core : DxeCore). AreServicesFor c.args.catalog.now core.services) (sym c.self.view_is) c.requires.made

pub take_own-requires-clause-state : goal.take_own-requires-clause-state
take_own-requires-clause-state g c = (c.requires.state.0.store, c.requires.state.1.store, tt)

pub take_own-requires-clause-machine : goal.take_own-requires-clause-machine
take_own-requires-clause-machine g c =
    let m = c.requires.state.0 in
    (m, subst (λ (core : DxeCore). AreServicesOf c.args.catalog.now m core.services) (sym c.self.view_is) c.requires.state.1.core.services)

pub take_own-requires-clause-counted : goal.take_own-requires-clause-counted
take_own-requires-clause-counted g c =
    let counted = c.requires.counted in
    (counted.0, counted.1, subst (λ (core : DxeCore). AreCounted counted.0 core.services) (sym c.self.view_is) counted.3)

pub returns-in_err-name-clause-row : goal.returns-in_err-name-clause-row
returns-in_err-name-clause-row g c m h waits own =
    let T = g.S.Sink.text in
    let catalog = c.args.catalog.now in
    let told = action_prints catalog m own.top own.below c.args.action.now in
    takes_fail _ catalog m c.args.action.now own _ c.from_residual.result c.from_residual.ensures.0
    (none_put m (acted_to catalog m own.top own.below c.args.action.now) told.0 (T c.args.sink.now) told.1)

pub returns-in_err-put_reply-clause-row : goal.returns-in_err-put_reply-clause-row
returns-in_err-put_reply-clause-row g c m h waits own =
    let T = g.S.Sink.text in
    let catalog = c.args.catalog.now in
    let action = c.args.action.now in
    let core : DxeCore = record { frames = c.self.inside.frames; fuel = c.self.inside.fuel; services = c.self.inside.services } in
    let stands = subst (λ kept. StandsFor g.M.PeiStore.stands_for c.args.store.now catalog kept m) (sym c.self.view_is) h in
    let same = top_is c.in-Some.frame.now own.top own.below core.frames m.frames c.in-Some.ensures stands.core.frames own.frames in
    let given = c.in_ok-name.ensures.row m stands.store stands.core.services waits in
    let r = replied c.effects_are_alike.ensures.dxe catalog m c.in-Some.frame.now own.top own.below action c.in_ok-name.field-0 core c.take_own.new.services c.answer.new.self same own.own given stands.core
    (c.answer.ensures own.top own.below (sym stands.core.frames ∙ own.frames)) in
    let shown : c.newest.result.now ≡ r.left.volumes = c.newest.ensures m.discovered r.left.volumes (ap (λ (order : Drivers). order.volumes) c.order.ensures ∙ r.all) r.left.count in
    let text = subst (λ xs. Sinks.AppendsPart (T c.args.sink.now) (T c.put_reply.new.sink) (text_of (call_line c.in_ok-name.field-0 ∷ discovery_lines xs))) shown c.in_err-put_reply.ensures.text in
    takes_fail _ catalog m action own _ c.from_residual-in_err-put_reply.result c.from_residual-in_err-put_reply.ensures.0
    (part_put m (acted_to catalog m own.top own.below action) (call_line c.in_ok-name.field-0 ∷ discovery_lines r.left.volumes) (T c.args.sink.now) (T c.put_reply.new.sink) r.printed text)

pub returns-clause-row : goal.returns-clause-row
returns-clause-row g c m h waits own =
    let T = g.S.Sink.text in
    let catalog = c.args.catalog.now in
    let action = c.args.action.now in
    let core : DxeCore = record { frames = c.self.inside.frames; fuel = c.self.inside.fuel; services = c.self.inside.services } in
    let stands = subst (λ kept. StandsFor g.M.PeiStore.stands_for c.args.store.now catalog kept m) (sym c.self.view_is) h in
    let same = top_is c.in-Some.frame.now own.top own.below core.frames m.frames c.in-Some.ensures stands.core.frames own.frames in
    let given = c.in_ok-name.ensures.row m stands.store stands.core.services waits in
    let r = replied c.effects_are_alike.ensures.dxe catalog m c.in-Some.frame.now own.top own.below action c.in_ok-name.field-0 core c.take_own.new.services c.answer.new.self same own.own given stands.core
    (c.answer.ensures own.top own.below (sym stands.core.frames ∙ own.frames)) in
    let shown : c.newest.result.now ≡ r.left.volumes = c.newest.ensures m.discovered r.left.volumes (ap (λ (order : Drivers). order.volumes) c.order.ensures ∙ r.all) r.left.count in
    let text = subst (λ xs. Appends (T c.args.sink.now) (T c.put_reply.new.sink) (text_of (call_line c.in_ok-name.field-0 ∷ discovery_lines xs))) shown c.in_ok-put_reply.ensures.text in
    record {
      changed = r.changed;
      left = r.left;
      stepped = stepped _ m (acted_to catalog m own.top own.below action) (call_line c.in_ok-name.field-0 ∷ discovery_lines r.left.volumes) (T c.args.sink.now) (T c.put_reply.new.sink) r.printed text
          (record { store = subst (g.M.PeiStore.stands_for c.args.store.now) (sym r.store) stands.store; core = r.fields });
    }

pub returns-clause-made : goal.returns-clause-made
returns-clause-made g c =
    let counted = c.requires.counted in
    record {
      made = c.in_ok-name.ensures.made;
      counted = subst (λ n. AreCounted n c.take_own.new.services) (counted.2 ∙ sym (ap (λ (core : DxeCore). core.fuel.taken) c.self.view_is))
          (c.in_ok-name.ensures.counted counted.0 (subst (λ (core : DxeCore). AreCounted counted.0 core.services) (sym c.self.view_is) counted.3));
      limit = ap (λ (core : DxeCore). core.fuel.limit) c.self.view_is;
    }
