use Rattle.std.proofs.Common.{cond, refl, ap, sym, subst, ◌∙◌, [], ◌∷◌}
use Rattle.boot_model.specs.DxeStep.{DxeFires, protocol_begun, protocol_line, swept}
use Rattle.dxe_core.specs.{Standing.DxeCore, Standing.IsCoreOf, Event.quiet, declared.stepped.Stepped.TheVariants.Went}
use Rattle.dxe_core.proofs.Cases.{case_fires, is_busy, part, quiet_leaves, went}
use Rattle.dxe_core.proofs.Fired.{fired_begun, fired_core}
use Rattle.dxe_core.proofs.Going.{first_part, steps_fail, stepped_one, texts}
use Rattle.dxe_core.proofs.dxe.Dxe.notify.Goals as goal

pub returns-in_err-put_made-clause-row : goal.returns-in_err-put_made-clause-row
returns-in_err-put_made-clause-row g c m fuel h runs =
    let T = g.S.Sink.text in
    let catalog = c.args.catalog.now in
    let note = c.args.next.0 in
    let sweep = c.args.next.1 in
    let core : DxeCore = record { frames = c.self.inside.frames; fuel = c.self.inside.fuel; services = c.self.inside.services } in
    let of = subst (λ kept. IsCoreOf catalog kept m) (sym c.self.view_is) h in
    let begun = protocol_begun catalog m note sweep runs.top runs.below in
    let is = fired_begun catalog m note sweep runs.top runs.below core of (sym c.begin_notification.ensures.room ∙ c.if-not-begin_notification.false) in
    steps_fail _ catalog fuel m _ c.from_residual.result c.from_residual.ensures.0
    (part catalog fuel m begun (DxeFires note sweep runs.top runs.below) (texts (T c.args.sink.now) (T c.put_made.new.sink)) (case_fires catalog m c.args.next runs.top runs.below runs.frames runs.fires) is
    (first_part m begun (protocol_line catalog sweep note) c.protocol_line.result [] (T c.args.sink.now) (T c.put_made.new.sink) refl c.protocol_line.ensures c.in_err-put_made.ensures.text))

pub returns-clause-row : goal.returns-clause-row
returns-clause-row g c m fuel h runs =
    let T = g.S.Sink.text in
    let catalog = c.args.catalog.now in
    let note = c.args.next.0 in
    let sweep = c.args.next.1 in
    let core : DxeCore = record { frames = c.self.inside.frames; fuel = c.self.inside.fuel; services = c.self.inside.services } in
    let of = subst (λ kept. IsCoreOf catalog kept m) (sym c.self.view_is) h in
    let begun = protocol_begun catalog m note sweep runs.top runs.below in
    let is = fired_begun catalog m note sweep runs.top runs.below core of (sym c.begin_notification.ensures.room ∙ c.if-not-begin_notification.false) in
    let fields = fired_core catalog m note sweep runs.top runs.below core c.begin_notification.new.frames c.begin_notification.result of runs.frames c.if-not-begin_notification.false
    (c.begin_notification.ensures.frames ∙ ap (λ frame. cond c.begin_notification.result (frame ∷ swept core.frames sweep) core.frames) c.notification_frame.ensures) in
    went _ catalog fuel m begun (DxeFires note sweep runs.top runs.below) quiet (Went c.quiet.result) (texts (T c.args.sink.now) (T c.put_made.new.sink))
    (case_fires catalog m c.args.next runs.top runs.below runs.frames runs.fires) is (is_busy m core.frames runs.top runs.below of.frames (sym of.frames ∙ runs.frames)) refl
    (quiet_leaves catalog m begun refl refl refl refl) (ap (λ event. Went event) c.quiet.ensures)
    (stepped_one _ m begun (protocol_line catalog sweep note) c.protocol_line.result (T c.args.sink.now) (T c.put_made.new.sink) refl c.protocol_line.ensures c.in_ok-put_made.ensures.text (record { store = refl; core = fields }))
