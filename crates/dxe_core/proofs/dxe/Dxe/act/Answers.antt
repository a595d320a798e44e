use Rattle.std.proofs.Common.{[], ◌∷◌, refl, sym, ap, ◌∙◌, subst, append-nil}
use Rattle.boot_model.specs.DxeStep.{DxeActs, with_action}
use Rattle.phase_parts.specs.declared.fuel.Fuel.{Fuel}
use Rattle.dxe_core.specs.{declared.stepped.Stepped.TheVariants.Went, Parts.acted_to, Event.quiet}
use Rattle.dxe_core.specs.Standing.{DxeCore, IsFor, StandsFor}
use Rattle.dxe_core.proofs.Acting.{acted_guids, acted_leads, count_fits, done, for_counted, fuel_left, left_core, limit_fits, takes_own, waits_on}
use Rattle.dxe_core.proofs.Cases.{case_acts, is_busy, leaves_from, part, went}
use Rattle.dxe_core.proofs.Going.{first_part, part_from, stepped_from, stepped_none, stepped_one, steps_fail, texts}
use Rattle.dxe_core.proofs.dxe.Dxe.act.Goals as goal

pub returns-in_err-put_made-in-Prints-clause-row : goal.returns-in_err-put_made-in-Prints-clause-row
returns-in_err-put_made-in-Prints-clause-row g c m fuel for h waits runs =
    let T = g.S.Sink.text in
    let catalog = c.args.catalog.now in
    let core : DxeCore = record { frames = c.self.inside.frames; fuel = c.self.inside.fuel; services = c.self.inside.services } in
    let stands = subst (λ kept. StandsFor g.M.PeiStore.stands_for c.args.store.now catalog kept m) (sym c.self.view_is) h in
    let kept = subst (IsFor catalog fuel) (sym c.self.view_is) for in
    let has = c.in-Prints.ensures runs.top runs.below (sym stands.core.frames ∙ runs.frames) in
    let line = c.in-Prints.line in
    let d = done c.effects_are_alike.ensures.dxe catalog fuel m runs.top runs.below core c.act.new.fuel c.act.new.frames (line ∷ []) stands.core kept.fuelled has.0 has.1 in
    steps_fail _ catalog fuel m _ c.from_residual.result c.from_residual.ensures.0
    (part catalog fuel m d.later (DxeActs runs.top runs.below) (texts (T c.args.sink.now) (T c.put_made.new.sink)) (case_acts catalog m runs.top runs.below runs.frames runs.fires) d.is
    (first_part m d.later line line [] (T c.args.sink.now) (T c.put_made.new.sink) d.printed refl c.in_err-put_made-in-Prints.ensures.text))

pub act_own-requires-clause-counted : goal.act_own-requires-clause-counted
act_own-requires-clause-counted g c =
    let catalog = c.args.catalog.now in
    let m = c.requires.state.0 in
    let h = c.requires.state.1 in
    let runs = c.requires.state.2 in
    let core : DxeCore = record { frames = c.self.inside.frames; fuel = c.self.inside.fuel; services = c.self.inside.services } in
    let stands = subst (λ kept. StandsFor g.M.PeiStore.stands_for c.args.store.now catalog kept m) (sym c.self.view_is) h in
    let has = c.in-Own.ensures runs.top runs.below (sym stands.core.frames ∙ runs.frames) in
    let kept = subst (IsFor catalog c.requires.made.0) (sym c.self.view_is) c.requires.made.1 in
    (core.fuel.taken, count_fits core.fuel c.act.new.fuel c.self.invariant has.0, sym (ap (λ (x : Fuel). x.taken) has.0.counted), kept.counted)

pub act_own-requires-clause-state : goal.act_own-requires-clause-state
act_own-requires-clause-state g c =
    let catalog = c.args.catalog.now in
    let m = c.requires.state.0 in
    let h = c.requires.state.1 in
    let runs = c.requires.state.2 in
    let core : DxeCore = record { frames = c.self.inside.frames; fuel = c.self.inside.fuel; services = c.self.inside.services } in
    let stands = subst (λ kept. StandsFor g.M.PeiStore.stands_for c.args.store.now catalog kept m) (sym c.self.view_is) h in
    let has = c.in-Own.ensures runs.top runs.below (sym stands.core.frames ∙ runs.frames) in
    let fields = left_core catalog m runs.top runs.below core c.act.new.fuel c.act.new.frames stands.core runs.frames has.0 has.1.frames in
    (with_action m, record { store = stands.store; core = fields }, takes_own catalog m runs.top runs.below c.in-Own.action.now c.act.new.frames runs.frames has.1)

pub returns-in_err-event-in-Own-clause-row : goal.returns-in_err-event-in-Own-clause-row
returns-in_err-event-in-Own-clause-row g c m fuel for h waits runs =
    let T = g.S.Sink.text in
    let catalog = c.args.catalog.now in
    let core : DxeCore = record { frames = c.self.inside.frames; fuel = c.self.inside.fuel; services = c.self.inside.services } in
    let stands = subst (λ kept. StandsFor g.M.PeiStore.stands_for c.args.store.now catalog kept m) (sym c.self.view_is) h in
    let kept = subst (IsFor catalog fuel) (sym c.self.view_is) for in
    let has = c.in-Own.ensures runs.top runs.below (sym stands.core.frames ∙ runs.frames) in
    let action = c.in-Own.action.now in
    let fields = left_core catalog m runs.top runs.below core c.act.new.fuel c.act.new.frames stands.core runs.frames has.0 has.1.frames in
    let left = fuel_left m fuel core c.act.new.fuel stands.core.actions kept.fuelled has.0 in
    let leads = acted_leads catalog fuel m runs.top runs.below action left has.1.is in
    let to = acted_to catalog (with_action m) runs.top runs.below action in
    let t = texts (T c.args.sink.now) (T c.act_own.new.sink) in
    let taken = c.in_err-event-in-Own.ensures.row (with_action m) (record { store = stands.store; core = fields }) (waits_on catalog m waits) (takes_own catalog m runs.top runs.below action c.act.new.frames runs.frames has.1) in
    steps_fail _ catalog fuel m t c.from_residual-in_err-event-in-Own.result c.from_residual-in_err-event-in-Own.ensures.0
    (part catalog fuel m to (DxeActs runs.top runs.below) t (case_acts catalog m runs.top runs.below runs.frames runs.fires) leads (part_from (with_action m) m to t refl taken))

pub returns-in-Silent-clause-row : goal.returns-in-Silent-clause-row
returns-in-Silent-clause-row g c m fuel for h waits runs =
    let T = g.S.Sink.text in
    let catalog = c.args.catalog.now in
    let core : DxeCore = record { frames = c.self.inside.frames; fuel = c.self.inside.fuel; services = c.self.inside.services } in
    let stands = subst (λ kept. StandsFor g.M.PeiStore.stands_for c.args.store.now catalog kept m) (sym c.self.view_is) h in
    let kept = subst (IsFor catalog fuel) (sym c.self.view_is) for in
    let has = c.in-Silent.ensures runs.top runs.below (sym stands.core.frames ∙ runs.frames) in
    let d = done c.effects_are_alike.ensures.dxe catalog fuel m runs.top runs.below core c.act.new.fuel c.act.new.frames [] stands.core kept.fuelled has.0 has.1 in
    let busy = is_busy m core.frames runs.top runs.below stands.core.frames (sym stands.core.frames ∙ runs.frames) in
    went _ catalog fuel m d.later (DxeActs runs.top runs.below) quiet (Went c.quiet.result) (texts (T c.args.sink.now) (T c.args.sink.now))
    (case_acts catalog m runs.top runs.below runs.frames runs.fires) d.is busy (sym d.changed) d.left (ap (λ event. Went event) c.quiet.ensures)
    (stepped_none _ m d.later (T c.args.sink.now) (d.printed ∙ append-nil m.lines) (record { store = subst (g.M.PeiStore.stands_for c.args.store.now) (sym d.store) stands.store; core = d.fields }))

pub returns-in-Silent-clause-made : goal.returns-in-Silent-clause-made
returns-in-Silent-clause-made g c fuel for =
    let catalog = c.args.catalog.now in
    let m = c.requires.state.0 in
    let h = c.requires.state.1 in
    let runs = c.requires.state.2 in
    let core : DxeCore = record { frames = c.self.inside.frames; fuel = c.self.inside.fuel; services = c.self.inside.services } in
    let stands = subst (λ kept. StandsFor g.M.PeiStore.stands_for c.args.store.now catalog kept m) (sym c.self.view_is) h in
    let has = c.in-Silent.ensures runs.top runs.below (sym stands.core.frames ∙ runs.frames) in
    let kept = subst (IsFor catalog fuel) (sym c.self.view_is) for in
    for_counted catalog fuel core c.act.new.fuel c.act.new.frames has.0 kept

pub returns-in_ok-put_made-in-Prints-clause-row : goal.returns-in_ok-put_made-in-Prints-clause-row
returns-in_ok-put_made-in-Prints-clause-row g c m fuel for h waits runs =
    let T = g.S.Sink.text in
    let catalog = c.args.catalog.now in
    let core : DxeCore = record { frames = c.self.inside.frames; fuel = c.self.inside.fuel; services = c.self.inside.services } in
    let stands = subst (λ kept. StandsFor g.M.PeiStore.stands_for c.args.store.now catalog kept m) (sym c.self.view_is) h in
    let kept = subst (IsFor catalog fuel) (sym c.self.view_is) for in
    let has = c.in-Prints.ensures runs.top runs.below (sym stands.core.frames ∙ runs.frames) in
    let line = c.in-Prints.line in
    let d = done c.effects_are_alike.ensures.dxe catalog fuel m runs.top runs.below core c.act.new.fuel c.act.new.frames (line ∷ []) stands.core kept.fuelled has.0 has.1 in
    let busy = is_busy m core.frames runs.top runs.below stands.core.frames (sym stands.core.frames ∙ runs.frames) in
    went _ catalog fuel m d.later (DxeActs runs.top runs.below) quiet (Went c.quiet-in-Prints.result) (texts (T c.args.sink.now) (T c.put_made.new.sink))
    (case_acts catalog m runs.top runs.below runs.frames runs.fires) d.is busy (sym d.changed) d.left (ap (λ event. Went event) c.quiet-in-Prints.ensures)
    (stepped_one _ m d.later line line (T c.args.sink.now) (T c.put_made.new.sink) d.printed refl c.in_ok-put_made-in-Prints.ensures.text (record { store = subst (g.M.PeiStore.stands_for c.args.store.now) (sym d.store) stands.store; core = d.fields }))

pub returns-in_ok-put_made-in-Prints-clause-made : goal.returns-in_ok-put_made-in-Prints-clause-made
returns-in_ok-put_made-in-Prints-clause-made g c fuel for =
    let catalog = c.args.catalog.now in
    let m = c.requires.state.0 in
    let h = c.requires.state.1 in
    let runs = c.requires.state.2 in
    let core : DxeCore = record { frames = c.self.inside.frames; fuel = c.self.inside.fuel; services = c.self.inside.services } in
    let stands = subst (λ kept. StandsFor g.M.PeiStore.stands_for c.args.store.now catalog kept m) (sym c.self.view_is) h in
    let has = c.in-Prints.ensures runs.top runs.below (sym stands.core.frames ∙ runs.frames) in
    let kept = subst (IsFor catalog fuel) (sym c.self.view_is) for in
    for_counted catalog fuel core c.act.new.fuel c.act.new.frames has.0 kept

pub returns-in_ok-event-in-Own-clause-row : goal.returns-in_ok-event-in-Own-clause-row
returns-in_ok-event-in-Own-clause-row g c m fuel for h waits runs =
    let T = g.S.Sink.text in
    let catalog = c.args.catalog.now in
    let core : DxeCore = record { frames = c.self.inside.frames; fuel = c.self.inside.fuel; services = c.self.inside.services } in
    let stands = subst (λ kept. StandsFor g.M.PeiStore.stands_for c.args.store.now catalog kept m) (sym c.self.view_is) h in
    let kept = subst (IsFor catalog fuel) (sym c.self.view_is) for in
    let has = c.in-Own.ensures runs.top runs.below (sym stands.core.frames ∙ runs.frames) in
    let action = c.in-Own.action.now in
    let fields = left_core catalog m runs.top runs.below core c.act.new.fuel c.act.new.frames stands.core runs.frames has.0 has.1.frames in
    let left = fuel_left m fuel core c.act.new.fuel stands.core.actions kept.fuelled has.0 in
    let leads = acted_leads catalog fuel m runs.top runs.below action left has.1.is in
    let to = acted_to catalog (with_action m) runs.top runs.below action in
    let t = texts (T c.args.sink.now) (T c.act_own.new.sink) in
    let taken = c.in_ok-event-in-Own.ensures.row (with_action m) (record { store = stands.store; core = fields }) (waits_on catalog m waits) (takes_own catalog m runs.top runs.below action c.act.new.frames runs.frames has.1) in
    let event = c.in_ok-event-in-Own.event in
    let Stands = StandsFor g.M.PeiStore.stands_for c.args.store.now catalog c.act_own.new.self in
    let busy = is_busy m core.frames runs.top runs.below stands.core.frames (sym stands.core.frames ∙ runs.frames) in
    went Stands catalog fuel m to (DxeActs runs.top runs.below) event (Went event) t
    (case_acts catalog m runs.top runs.below runs.frames runs.fires) leads busy (taken.changed ∙ sym (acted_guids catalog fuel m runs.top runs.below action left has.1.is)) (leaves_from catalog event (with_action m) m to refl refl refl refl taken.left) refl
    (stepped_from Stands (with_action m) m to t refl taken.stepped)

pub returns-in_ok-event-in-Own-clause-made : goal.returns-in_ok-event-in-Own-clause-made
returns-in_ok-event-in-Own-clause-made g c fuel for =
    let catalog = c.args.catalog.now in
    let m = c.requires.state.0 in
    let h = c.requires.state.1 in
    let runs = c.requires.state.2 in
    let core : DxeCore = record { frames = c.self.inside.frames; fuel = c.self.inside.fuel; services = c.self.inside.services } in
    let stands = subst (λ kept. StandsFor g.M.PeiStore.stands_for c.args.store.now catalog kept m) (sym c.self.view_is) h in
    let has = c.in-Own.ensures runs.top runs.below (sym stands.core.frames ∙ runs.frames) in
    let kept = subst (IsFor catalog fuel) (sym c.self.view_is) for in
    let keeps = c.in_ok-event-in-Own.ensures.made in
    record { made = keeps.made; counted = keeps.counted; fuelled = keeps.limit ∙ ap (λ (x : Fuel). x.limit) has.0.counted ∙ kept.fuelled }

pub invariant_of-self-in-Silent : goal.invariant_of-self-in-Silent
invariant_of-self-in-Silent g c =
    let catalog = c.args.catalog.now in
    let m = c.requires.state.0 in
    let h = c.requires.state.1 in
    let runs = c.requires.state.2 in
    let core : DxeCore = record { frames = c.self.inside.frames; fuel = c.self.inside.fuel; services = c.self.inside.services } in
    let stands = subst (λ kept. StandsFor g.M.PeiStore.stands_for c.args.store.now catalog kept m) (sym c.self.view_is) h in
    let has = c.in-Silent.ensures runs.top runs.below (sym stands.core.frames ∙ runs.frames) in
    limit_fits core.fuel c.act.new.fuel c.self.invariant has.0

pub invariant_of-self-in_err-put_made-in-Prints : goal.invariant_of-self-in_err-put_made-in-Prints
invariant_of-self-in_err-put_made-in-Prints g c =
    let catalog = c.args.catalog.now in
    let m = c.requires.state.0 in
    let h = c.requires.state.1 in
    let runs = c.requires.state.2 in
    let core : DxeCore = record { frames = c.self.inside.frames; fuel = c.self.inside.fuel; services = c.self.inside.services } in
    let stands = subst (λ kept. StandsFor g.M.PeiStore.stands_for c.args.store.now catalog kept m) (sym c.self.view_is) h in
    let has = c.in-Prints.ensures runs.top runs.below (sym stands.core.frames ∙ runs.frames) in
    limit_fits core.fuel c.act.new.fuel c.self.invariant has.0

pub invariant_of-self-in-Prints : goal.invariant_of-self-in-Prints
invariant_of-self-in-Prints g c =
    let catalog = c.args.catalog.now in
    let m = c.requires.state.0 in
    let h = c.requires.state.1 in
    let runs = c.requires.state.2 in
    let core : DxeCore = record { frames = c.self.inside.frames; fuel = c.self.inside.fuel; services = c.self.inside.services } in
    let stands = subst (λ kept. StandsFor g.M.PeiStore.stands_for c.args.store.now catalog kept m) (sym c.self.view_is) h in
    let has = c.in-Prints.ensures runs.top runs.below (sym stands.core.frames ∙ runs.frames) in
    limit_fits core.fuel c.act.new.fuel c.self.invariant has.0

pub invariant_of-self-in-Own : goal.invariant_of-self-in-Own
invariant_of-self-in-Own g c =
    let catalog = c.args.catalog.now in
    let m = c.requires.state.0 in
    let h = c.requires.state.1 in
    let runs = c.requires.state.2 in
    let core : DxeCore = record { frames = c.self.inside.frames; fuel = c.self.inside.fuel; services = c.self.inside.services } in
    let stands = subst (λ kept. StandsFor g.M.PeiStore.stands_for c.args.store.now catalog kept m) (sym c.self.view_is) h in
    let has = c.in-Own.ensures runs.top runs.below (sym stands.core.frames ∙ runs.frames) in
    limit_fits core.fuel c.act.new.fuel c.self.invariant has.0
