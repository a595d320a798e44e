use Rattle.std.proofs.Common.{cond, refl, ap, sym, subst, ◌∙◌, []}
use Rattle.boot_model.specs.PeiStep.{Fires, callback_line, callback_begun}
use Rattle.pei_core.specs.{Cores.with_callback, declared.event.Again.TheVariants.Nobody, Standing.IsCoreOf, Steps.IsIdle}
use Rattle.pei_core.proofs.Cases.{case_fires, part, some_none, went}
use Rattle.pei_core.proofs.{Fired.fired_begun, Fired.fired_core, SecondStarts.nobody}
use Rattle.pei_core.proofs.Going.{first_part, led_quietly, quiet_goal, steps_fail, stepped_one, texts}
use Rattle.pei_core.proofs.pei.Pei.fire.Goals as goal

pub returns-in_err-put_made-clause-row : goal.returns-in_err-put_made-clause-row
returns-in_err-put_made-clause-row g c m fuel for h e =
    let T = g.S.Sink.text in
    let catalog = c.args.catalog.now in
    let firing = c.args.next.0 in
    let begun = callback_begun catalog m firing c.args.next.1 in
    let is = fired_begun catalog m firing c.args.next.1 c.args.self.now.core h.has.fields (sym c.begin_callback.ensures.room ∙ c.if-not-begin_callback.false) in
    let line = callback_line catalog firing in
    steps_fail _ _ catalog fuel m _ c.from_residual.result c.from_residual.ensures.1 (λ (idle : IsIdle m). some_none _ _ e idle.fires)
    (part catalog fuel m begun (Fires firing c.args.next.1) (texts (T c.args.sink.now) (T c.put_made.new.sink)) (case_fires catalog m firing c.args.next.1 e) is
    (first_part m begun line c.callback_line.result [] (T c.args.sink.now) (T c.put_made.new.sink) refl c.callback_line.ensures c.in_err-put_made.ensures.text))

pub returns-clause-row : goal.returns-clause-row
returns-clause-row g c m fuel for h e =
    let T = g.S.Sink.text in
    let catalog = c.args.catalog.now in
    let firing = c.args.next.0 in
    let begun = callback_begun catalog m firing c.args.next.1 in
    let is = fired_begun catalog m firing c.args.next.1 c.args.self.now.core h.has.fields (sym c.begin_callback.ensures.room ∙ c.if-not-begin_callback.false) in
    let line = callback_line catalog firing in
    let core = c.begin_callback.ensures.core ∙ ap (λ b. cond b (with_callback c.args.self.now.core firing c.args.next.1) c.args.self.now.core) c.if-not-begin_callback.false in
    let fields = subst (λ x. IsCoreOf x begun) (sym core) (fired_core catalog m firing c.args.next.1 c.args.self.now.core h.has.fields) in
    let t = texts (T c.args.sink.now) (T c.put_made.new.sink) in
    went g.M.PeiStore.TAKES_MEMORY _ catalog fuel m (Fires firing c.args.next.1) (quiet_goal begun) c.quiet.result t (case_fires catalog m firing c.args.next.1 e) is refl refl (λ (idle : IsIdle m). some_none _ _ e idle.fires)
    (led_quietly _ m begun t Nobody c.quiet.result c.quiet.ensures refl (nobody m begun refl refl refl) (stepped_one _ m begun line c.callback_line.result (T c.args.sink.now) (T c.put_made.new.sink) refl c.callback_line.ensures c.in_ok-put_made.ensures.text (record { store = h.has.store; fields = fields })))
