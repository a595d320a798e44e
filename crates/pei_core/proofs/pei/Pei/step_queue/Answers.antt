use Rattle.std.proofs.Common.{refl, sym, subst, []}
use Rattle.boot_laws.proofs.PeiCases.{Popped, popped_is}
use Rattle.boot_model.specs.PeiStep.{Pops, dispatch_line, popped_to}
use Rattle.pei_core.specs.{declared.event.Again.TheVariants.Nobody, Standing.IsCoreOf, Steps.IsIdle}
use Rattle.pei_core.proofs.Cases.{case_pops, no_move, part, some_none, went}
use Rattle.pei_core.proofs.{Fired.popped_core, SecondStarts.nobody}
use Rattle.pei_core.proofs.Going.{first_part, led_quietly, quiet_goal, steps_fail, stepped_one, texts}
use Rattle.pei_core.proofs.pei.Pei.step_queue.Goals as goal

pub returns-in_err-put_made-in-Some-clause-row : goal.returns-in_err-put_made-in-Some-clause-row
returns-in_err-put_made-in-Some-clause-row g c m fuel for h pops =
    let T = g.S.Sink.text in
    let catalog = c.args.catalog.now in
    let firing = c.in-Some.firing in
    let a = c.in-Some.ensures.row m.store h.has.store in
    let later = popped_to catalog m firing a.0 in
    let is = case_pops catalog m firing a.0 pops.0.quiet pops.0.frames (no_move m.store pops.1) a.1 in
    steps_fail _ _ catalog fuel m _ c.from_residual.result c.from_residual.ensures.1 (λ (idle : IsIdle m). some_none _ _ a.1 idle.pops)
    (part catalog fuel m later (Pops firing a.0) (texts (T c.args.sink.now) (T c.put_made.new.sink)) is refl
    (first_part m later (dispatch_line catalog firing) c.dispatch_line.result [] (T c.args.sink.now) (T c.put_made.new.sink) refl c.dispatch_line.ensures c.in_err-put_made-in-Some.ensures.text))

pub returns-in_ok-put_made-in-Some-clause-row : goal.returns-in_ok-put_made-in-Some-clause-row
returns-in_ok-put_made-in-Some-clause-row g c m fuel for h pops =
    let T = g.S.Sink.text in
    let catalog = c.args.catalog.now in
    let firing = c.in-Some.firing in
    let a = c.in-Some.ensures.row m.store h.has.store in
    let later = popped_to catalog m firing a.0 in
    let is = case_pops catalog m firing a.0 pops.0.quiet pops.0.frames (no_move m.store pops.1) a.1 in
    let core = c.begin_dispatch.ensures in
    let fields = subst (λ x. IsCoreOf x later) (sym core) (popped_core catalog m a.0 firing c.args.self.now.core h.has.fields) in
    let t = texts (T c.args.sink.now) (T c.put_made.new.sink) in
    went g.M.PeiStore.TAKES_MEMORY _ catalog fuel m (Pops firing a.0) (quiet_goal later) c.quiet.result t is refl refl refl (λ (idle : IsIdle m). some_none _ _ a.1 idle.pops)
    (led_quietly _ m later t Nobody c.quiet.result c.quiet.ensures refl (nobody m later refl refl (subst (Popped m.store) a.1 (popped_is m.store))) (stepped_one _ m later (dispatch_line catalog firing) c.dispatch_line.result (T c.args.sink.now) (T c.put_made.new.sink) refl c.dispatch_line.ensures c.in_ok-put_made-in-Some.ensures.text (record { store = a.2; fields = fields })))

pub returns-in-None-clause-faults : goal.returns-in-None-clause-faults
returns-in-None-clause-faults g c = refl

pub queue_pop-requires : goal.queue_pop-requires
queue_pop-requires g c = let stands = c.requires.state in record { state = (stands.0.store, stands.1.has.store, tt) }
