use Rattle.std.proofs.Common.{[], ◌∷◌, refl, sym, ap, ◌∙◌, subst, append-nil}
use Rattle.boot_io.proofs.PutsLaws.{appends_none}
use Rattle.boot_model.specs.PeiStep.{Acts, in_case}
use Rattle.pei_core.specs.{declared.event.Again.TheVariants.Nobody, Parts.action_goal, Standing.Has, Steps.IsIdle}
use Rattle.pei_core.proofs.Acting.{counted, counted_sound, counted_started, done, for_counted, fuel_left, left_core, own_leads, own_places, own_takes, takes_own}
use Rattle.pei_core.proofs.Cases.{case_acts, cons_nil, part, went}
use Rattle.pei_core.proofs.Going.{first_part, goes_on, led_quietly, quiet_goal, same_err, stepped_from, steps_fail, stepped_none, stepped_one, texts}
use Rattle.pei_core.proofs.pei.Pei.act.Goals as goal

pub returns-in_err-put_made-in-Prints-clause-row : goal.returns-in_err-put_made-in-Prints-clause-row
returns-in_err-put_made-in-Prints-clause-row g c m fuel for h runs =
    let T = g.S.Sink.text in
    let catalog = c.args.catalog.now in
    let line = c.in-Prints.line in
    let has = c.in-Prints.ensures runs.top runs.below (sym h.has.fields.frames ∙ runs.frames) in
    let d = done c.effects_are_alike.ensures.pei catalog fuel m runs.top runs.below c.args.self.now.core c.act.new.fuel c.act.new.frames (line ∷ []) h.has.fields for.fuelled has.0 has.1 in
    steps_fail _ _ catalog fuel m _ c.from_residual.result c.from_residual.ensures.1 (λ (idle : IsIdle m). cons_nil _ _ _ runs.frames idle.frames)
    (part catalog fuel m d.later (Acts runs.top runs.below) (texts (T c.args.sink.now) (T c.put_made.new.sink)) (case_acts catalog m runs.top runs.below runs.quiet runs.frames) d.is
    (first_part m d.later line line [] (T c.args.sink.now) (T c.put_made.new.sink) d.printed refl c.in_err-put_made-in-Prints.ensures.text))

pub returns-in_err-put_made-in-Prints-clause-kept : goal.returns-in_err-put_made-in-Prints-clause-kept
returns-in_err-put_made-in-Prints-clause-kept g c =
    let runs = c.requires.state.2 in
    let has = c.in-Prints.ensures runs.top runs.below (sym c.requires.state.1.has.fields.frames ∙ runs.frames) in
    record { made = λ fuel for. for_counted c.args.catalog.now fuel c.args.self.now.core c.act.new.fuel c.act.new.frames has.0 for; started = refl }

pub act_own-requires-clause-state : goal.act_own-requires-clause-state
act_own-requires-clause-state g c =
    let m = c.requires.state.0 in
    let h = c.requires.state.1 in
    let runs = c.requires.state.2 in
    let has = c.in-Own.ensures runs.top runs.below (sym h.has.fields.frames ∙ runs.frames) in
    let fields = left_core m runs.top runs.below c.args.self.now.core c.act.new.fuel c.act.new.frames h.has.fields runs.frames has.0 has.1.frames in (
      counted m,
      record { has = record { store = h.has.store; fields = fields }; sound = counted_sound m h.sound; started = counted_started m h.started },
      takes_own c.args.catalog.now m runs.top runs.below c.in-Own.action.now c.act.new.frames runs.frames has.1,
    )

pub returns-in_err-event-in-Own-clause-row : goal.returns-in_err-event-in-Own-clause-row
returns-in_err-event-in-Own-clause-row g c m fuel for h runs =
    let T = g.S.Sink.text in
    let catalog = c.args.catalog.now in
    let action = c.in-Own.action.now in
    let core = c.args.self.now.core in
    let has = c.in-Own.ensures runs.top runs.below (sym h.has.fields.frames ∙ runs.frames) in
    let fields = left_core m runs.top runs.below core c.act.new.fuel c.act.new.frames h.has.fields runs.frames has.0 has.1.frames in
    let left = fuel_left m fuel core c.act.new.fuel h.has.fields.actions for.fuelled has.0 in
    let is = case_acts catalog m runs.top runs.below runs.quiet runs.frames in
    let goes = c.in_err-event-in-Own.ensures.row (counted m) (record { has = record { store = h.has.store; fields = fields }; sound = counted_sound m h.sound; started = counted_started m h.started })
    (takes_own catalog m runs.top runs.below action c.act.new.frames runs.frames has.1) in
    goes_on c.in_err-event-in-Own.field-0.0 g.M.PeiStore.TAKES_MEMORY (Has g.M.PeiStore.stands_for c.act_own.new.self) _ catalog fuel m (counted m) (action_goal catalog (counted m) runs.top runs.below action) []
    (T c.args.sink.now) (T c.args.sink.now) (T c.act_own.new.sink) c.from_residual-in_err-event-in-Own.result (same_err _ c.from_residual-in_err-event-in-Own.result c.from_residual-in_err-event-in-Own.ensures.1) (λ (idle : IsIdle m). cons_nil _ _ _ runs.frames idle.frames)
    (ap (in_case catalog fuel m) is ∙ own_leads catalog fuel m runs.top runs.below action left has.1.is) (sym (append-nil m.lines)) (appends_none (T c.args.sink.now)) goes

pub returns-in_err-event-in-Own-clause-kept : goal.returns-in_err-event-in-Own-clause-kept
returns-in_err-event-in-Own-clause-kept g c =
    let runs = c.requires.state.2 in
    let has = c.in-Own.ensures runs.top runs.below (sym c.requires.state.1.has.fields.frames ∙ runs.frames) in
    let k = c.in_err-event-in-Own.ensures.kept in
    record { made = λ fuel for. k.made fuel (for_counted c.args.catalog.now fuel c.args.self.now.core c.act.new.fuel c.act.new.frames has.0 for); started = k.started }

pub returns-in-Silent-clause-row : goal.returns-in-Silent-clause-row
returns-in-Silent-clause-row g c m fuel for h runs =
    let T = g.S.Sink.text in
    let catalog = c.args.catalog.now in
    let has = c.in-Silent.ensures runs.top runs.below (sym h.has.fields.frames ∙ runs.frames) in
    let d = done c.effects_are_alike.ensures.pei catalog fuel m runs.top runs.below c.args.self.now.core c.act.new.fuel c.act.new.frames [] h.has.fields for.fuelled has.0 has.1 in
    let t = texts (T c.args.sink.now) (T c.args.sink.now) in
    went g.M.PeiStore.TAKES_MEMORY _ catalog fuel m (Acts runs.top runs.below) (quiet_goal d.later) c.quiet.result t (case_acts catalog m runs.top runs.below runs.quiet runs.frames) d.is d.there d.gone (λ (idle : IsIdle m). cons_nil _ _ _ runs.frames idle.frames)
    (led_quietly _ m d.later t Nobody c.quiet.result c.quiet.ensures (d.fields.reported ∙ sym h.has.fields.reported) d.again
    (stepped_none _ m d.later (T c.args.sink.now) (d.printed ∙ append-nil m.lines) (record { store = subst (g.M.PeiStore.stands_for c.args.self.now.store) (sym d.store) h.has.store; fields = d.fields })))

pub returns-in-Silent-clause-kept : goal.returns-in-Silent-clause-kept
returns-in-Silent-clause-kept g c =
    let runs = c.requires.state.2 in
    let has = c.in-Silent.ensures runs.top runs.below (sym c.requires.state.1.has.fields.frames ∙ runs.frames) in
    record { made = λ fuel for. for_counted c.args.catalog.now fuel c.args.self.now.core c.act.new.fuel c.act.new.frames has.0 for; started = refl }

pub returns-in_ok-put_made-in-Prints-clause-row : goal.returns-in_ok-put_made-in-Prints-clause-row
returns-in_ok-put_made-in-Prints-clause-row g c m fuel for h runs =
    let T = g.S.Sink.text in
    let catalog = c.args.catalog.now in
    let line = c.in-Prints.line in
    let has = c.in-Prints.ensures runs.top runs.below (sym h.has.fields.frames ∙ runs.frames) in
    let d = done c.effects_are_alike.ensures.pei catalog fuel m runs.top runs.below c.args.self.now.core c.act.new.fuel c.act.new.frames (line ∷ []) h.has.fields for.fuelled has.0 has.1 in
    let t = texts (T c.args.sink.now) (T c.put_made.new.sink) in
    went g.M.PeiStore.TAKES_MEMORY _ catalog fuel m (Acts runs.top runs.below) (quiet_goal d.later) c.quiet-in-Prints.result t (case_acts catalog m runs.top runs.below runs.quiet runs.frames) d.is d.there d.gone (λ (idle : IsIdle m). cons_nil _ _ _ runs.frames idle.frames)
    (led_quietly _ m d.later t Nobody c.quiet-in-Prints.result c.quiet-in-Prints.ensures (d.fields.reported ∙ sym h.has.fields.reported) d.again
    (stepped_one _ m d.later line line (T c.args.sink.now) (T c.put_made.new.sink) d.printed refl c.in_ok-put_made-in-Prints.ensures.text (record { store = subst (g.M.PeiStore.stands_for c.args.self.now.store) (sym d.store) h.has.store; fields = d.fields })))

pub returns-in_ok-put_made-in-Prints-clause-kept : goal.returns-in_ok-put_made-in-Prints-clause-kept
returns-in_ok-put_made-in-Prints-clause-kept g c =
    let runs = c.requires.state.2 in
    let has = c.in-Prints.ensures runs.top runs.below (sym c.requires.state.1.has.fields.frames ∙ runs.frames) in
    record { made = λ fuel for. for_counted c.args.catalog.now fuel c.args.self.now.core c.act.new.fuel c.act.new.frames has.0 for; started = refl }

pub returns-in_ok-event-in-Own-clause-row : goal.returns-in_ok-event-in-Own-clause-row
returns-in_ok-event-in-Own-clause-row g c m fuel for h runs =
    let T = g.S.Sink.text in
    let catalog = c.args.catalog.now in
    let action = c.in-Own.action.now in
    let core = c.args.self.now.core in
    let has = c.in-Own.ensures runs.top runs.below (sym h.has.fields.frames ∙ runs.frames) in
    let fields = left_core m runs.top runs.below core c.act.new.fuel c.act.new.frames h.has.fields runs.frames has.0 has.1.frames in
    let left = fuel_left m fuel core c.act.new.fuel h.has.fields.actions for.fuelled has.0 in
    let own = takes_own catalog m runs.top runs.below action c.act.new.frames runs.frames has.1 in
    let led = c.in_ok-event-in-Own.ensures.row (counted m) (record { has = record { store = h.has.store; fields = fields }; sound = counted_sound m h.sound; started = counted_started m h.started }) own in
    let to = action_goal catalog (counted m) runs.top runs.below action in
    let t = texts (T c.args.sink.now) (T c.act_own.new.sink) in
    went g.M.PeiStore.TAKES_MEMORY _ catalog fuel m (Acts runs.top runs.below) to c.in_ok-event-in-Own.event t (case_acts catalog m runs.top runs.below runs.quiet runs.frames)
    (own_leads catalog fuel m runs.top runs.below action left has.1.is) (own_places catalog fuel m runs.top runs.below action left has.1.is) (own_takes catalog fuel m runs.top runs.below action left has.1.is) (λ (idle : IsIdle m). cons_nil _ _ _ runs.frames idle.frames)
    (record { there = led.there; gone = led.gone; again = led.again; volumes = led.volumes; stepped = stepped_from _ (counted m) m to.to t refl led.stepped })

pub returns-in_ok-event-in-Own-clause-kept : goal.returns-in_ok-event-in-Own-clause-kept
returns-in_ok-event-in-Own-clause-kept g c =
    let runs = c.requires.state.2 in
    let has = c.in-Own.ensures runs.top runs.below (sym c.requires.state.1.has.fields.frames ∙ runs.frames) in
    let k = c.in_ok-event-in-Own.ensures.kept in
    record { made = λ fuel for. k.made fuel (for_counted c.args.catalog.now fuel c.args.self.now.core c.act.new.fuel c.act.new.frames has.0 for); started = k.started }
