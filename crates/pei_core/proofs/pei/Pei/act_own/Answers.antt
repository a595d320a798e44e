use Rattle.std.proofs.Common.{◌≡◌, refl, sym, ap, ◌∙◌, subst, Ok}
use Rattle.boot_laws.proofs.ActionMoved.{EffectKeeps, effect_keeps}
use Rattle.boot_model.specs.PeiAction.{Called, Own, Shadowed, Wrote, effect}
use Rattle.phase_parts.specs.Writes.{written}
use Rattle.pei_core.specs.{Guids.AreChangesOf, Guids.no_changes, declared.event.Again.TheVariants.Nobody, Standing.Has}
use Rattle.pei_core.specs.Taken.{Does, changes_by, reply_in}
use Rattle.pei_core.specs.Parts.{action_goal, reply_goal, shadow_goal}
use Rattle.pei_core.proofs.Going.{leads_as, leads_want, led_quietly, none_put, quiet_goal, stepped_none, texts}
use Rattle.pei_core.proofs.Owned.{changed_of_top, effect_prints, installed_are, leads_by, top_held, top_is, top_started, wrote, wrote_core}
use Rattle.pei_core.proofs.SecondStarts.{nobody}
use Rattle.pei_core.proofs.pei.Pei.act_own.Goals as goal

pub returns-in_err-status-clause-row : goal.returns-in_err-status-clause-row
returns-in_err-status-clause-row g c m h own =
    let T = g.S.Sink.text in
    let found = c.in-Some.frame.now in
    let same = top_is found own.top own.below c.args.self.now.core.frames m.frames c.in-Some.ensures h.has.fields.frames own.frames in
    let held = top_held m.store found own.top own.below m.frames same own.frames h.sound.held in
    let a = c.in_err-status.ensures.row m.store (h.has.store, held) in
    let to = action_goal c.args.catalog.now m own.top own.below c.args.action.now in
    let told = effect_prints c.args.catalog.now m own.top own.below (effect m.store own.top c.args.action.now) in
    leads_want g.M.PeiStore.TAKES_MEMORY _ m to (texts (T c.args.sink.now) (T c.args.sink.now)) c.from_residual.result c.from_residual.ensures.1 a.1.0 (none_put m to.to told.0 (T c.args.sink.now) told.1)

pub answer-requires-in-Called-clause-state : goal.answer-requires-in-Called-clause-state
answer-requires-in-Called-clause-state g c =
    let m = c.requires.state.0 in
    let h = c.requires.state.1 in
    let own = c.requires.state.2 in
    let found = c.in-Some.frame.now in
    let same = top_is found own.top own.below c.args.self.now.core.frames m.frames c.in-Some.ensures h.has.fields.frames own.frames in
    let held = top_held m.store found own.top own.below m.frames same own.frames h.sound.held in
    let a = c.in_ok-status.ensures.row m.store (h.has.store, held) in
    let does = subst (λ taken. Does (effect m.store found c.args.action.now) m.store found.registers taken a.0) c.in-Called.is a.1 in
    (a.0, a.2, installed_are c.replies_are_sound.ensures m.store a.0 found c.args.action.now c.in-Called.reply (g.met.M.PeiStore.facts c.args.self.now.store m.store h.has.store) (g.met.M.PeiStore.facts c.take_own.new.store a.0 a.2) held does)

pub shadow-requires-clause-state : goal.shadow-requires-clause-state
shadow-requires-clause-state g c =
    let m = c.requires.state.0 in
    let h = c.requires.state.1 in
    let own = c.requires.state.2 in
    let found = c.in-Some.frame.now in
    let same = top_is found own.top own.below c.args.self.now.core.frames m.frames c.in-Some.ensures h.has.fields.frames own.frames in
    let held = top_held m.store found own.top own.below m.frames same own.frames h.sound.held in
    let a = c.in_ok-status.ensures.row m.store (h.has.store, held) in
    (a.0, a.2, tt)

pub returns-in-Wrote-clause-row : goal.returns-in-Wrote-clause-row
returns-in-Wrote-clause-row g c m h own =
    let T = g.S.Sink.text in
    let catalog = c.args.catalog.now in
    let action = c.args.action.now in
    let found = c.in-Some.frame.now in
    let core = c.args.self.now.core in
    let same = top_is found own.top own.below core.frames m.frames c.in-Some.ensures h.has.fields.frames own.frames in
    let held = top_held m.store found own.top own.below m.frames same own.frames h.sound.held in
    let a = c.in_ok-status.ensures.row m.store (h.has.store, held) in
    let does = subst (λ taken. Does (effect m.store found action) m.store found.registers taken a.0) c.in-Wrote.is a.1 in
    let changed = changed_of_top m.store found own.top action no_changes same (subst (λ taken. AreChangesOf m.store found action (changes_by taken)) c.in-Wrote.is (c.in_ok-status.ensures.changes m.store h.has.store held)) in
    let registers = written own.top.registers c.in-Wrote.writes in
    let to = leads_by catalog m found own.top own.below action (Wrote registers c.in-Wrote.status) same (does.0 ∙ ap (λ f. Wrote (written f.registers c.in-Wrote.writes) c.in-Wrote.status) same) in
    let fields = wrote_core m own.top own.below registers c.in-Wrote.status core c.answer.new.self h.has.fields (c.answer.ensures own.top own.below (sym h.has.fields.frames ∙ own.frames)) in
    let later = wrote m own.top own.below registers c.in-Wrote.status in
    let t = texts (T c.args.sink.now) (T c.args.sink.now) in
    leads_as (Ok c.quiet.result) g.M.PeiStore.TAKES_MEMORY _ m (quiet_goal later) (action_goal catalog m own.top own.below action) t to changed.there changed.gone
    (led_quietly _ m later t Nobody c.quiet.result c.quiet.ensures refl (nobody m later refl refl refl)
    (stepped_none _ m later (T c.args.sink.now) refl (record { store = subst (g.M.PeiStore.stands_for c.take_own.new.store) does.1 a.2; fields = fields })))

pub returns-in-Called-clause-row : goal.returns-in-Called-clause-row
returns-in-Called-clause-row g c m h own =
    let T = g.S.Sink.text in
    let catalog = c.args.catalog.now in
    let action = c.args.action.now in
    let found = c.in-Some.frame.now in
    let reply = c.in-Called.reply in
    let same = top_is found own.top own.below c.args.self.now.core.frames m.frames c.in-Some.ensures h.has.fields.frames own.frames in
    let held = top_held m.store found own.top own.below m.frames same own.frames h.sound.held in
    let a = c.in_ok-status.ensures.row m.store (h.has.store, held) in
    let does = subst (λ taken. Does (effect m.store found action) m.store found.registers taken a.0) c.in-Called.is a.1 in
    let changed = changed_of_top m.store found own.top action reply.changes same (subst (λ taken. AreChangesOf m.store found action (changes_by taken)) c.in-Called.is (c.in_ok-status.ensures.changes m.store h.has.store held)) in
    let each = installed_are c.replies_are_sound.ensures m.store a.0 found action reply (g.met.M.PeiStore.facts c.args.self.now.store m.store h.has.store) (g.met.M.PeiStore.facts c.take_own.new.store a.0 a.2) held does in
    let to = leads_by catalog m found own.top own.below action (Called reply.name (reply_in reply own.top.registers a.0)) same (does ∙ ap (λ f. Called reply.name (reply_in reply f.registers a.0)) same) in
    let stays : a.0.moved ≡ m.store.moved = subst (λ e. EffectKeeps m.store e) does (effect_keeps m.store found action) in
    leads_as c.answer-in-Called.result g.M.PeiStore.TAKES_MEMORY _ m (reply_goal catalog m own.top own.below reply a.0) (action_goal catalog m own.top own.below action) (texts (T c.args.sink.now) (T c.answer-in-Called.new.sink)) to changed.there changed.gone
    (c.answer-in-Called.ensures.row m own.top own.below a.0 (record { fields = h.has.fields; frames = own.frames; store = a.2; installed = each; stays = stays }))

pub returns-in-Shadowed-clause-row : goal.returns-in-Shadowed-clause-row
returns-in-Shadowed-clause-row g c m h own =
    let T = g.S.Sink.text in
    let catalog = c.args.catalog.now in
    let action = c.args.action.now in
    let found = c.in-Some.frame.now in
    let same = top_is found own.top own.below c.args.self.now.core.frames m.frames c.in-Some.ensures h.has.fields.frames own.frames in
    let held = top_held m.store found own.top own.below m.frames same own.frames h.sound.held in
    let a = c.in_ok-status.ensures.row m.store (h.has.store, held) in
    let does = subst (λ taken. Does (effect m.store found action) m.store found.registers taken a.0) c.in-Shadowed.is a.1 in
    let changed = changed_of_top m.store found own.top action no_changes same (subst (λ taken. AreChangesOf m.store found action (changes_by taken)) c.in-Shadowed.is (c.in_ok-status.ensures.changes m.store h.has.store held)) in
    let to = leads_by catalog m found own.top own.below action (Own Shadowed) same does.0 in
    let has : Has g.M.PeiStore.stands_for (record { store = c.take_own.new.store; core = c.args.self.now.core }) m = record { store = subst (g.M.PeiStore.stands_for c.take_own.new.store) does.1 a.2; fields = h.has.fields } in
    let started = top_started m.started found own.top own.below m.frames same own.frames h.started.frames_are in
    leads_as c.shadow.result g.M.PeiStore.TAKES_MEMORY _ m (shadow_goal m own.top own.below) (action_goal catalog m own.top own.below action) (texts (T c.args.sink.now) (T c.shadow.new.sink)) to changed.there changed.gone
    (c.shadow.ensures.row m own.top own.below (record { has = has; frames = own.frames; started = started; number_is = ap (λ f. f.module_number) (sym same) }))

pub returns-in-Shadowed-clause-kept : goal.returns-in-Shadowed-clause-kept
returns-in-Shadowed-clause-kept g c = let k = c.shadow.ensures.kept c.args.catalog.now in record { made = k.made; started = k.started }

pub returns-in_err-status-clause-kept : goal.returns-in_err-status-clause-kept
returns-in_err-status-clause-kept g c = record { made = λ fuel for. record { states = for.states; known = for.known; fuelled = for.fuelled }; started = refl }

pub returns-in-Wrote-clause-kept : goal.returns-in-Wrote-clause-kept
returns-in-Wrote-clause-kept g c = record { made = λ fuel for. record { states = for.states; known = for.known; fuelled = for.fuelled }; started = refl }

pub returns-in-Called-clause-kept : goal.returns-in-Called-clause-kept
returns-in-Called-clause-kept g c = let k = c.answer-in-Called.ensures.kept in record { made = λ fuel for. k.made fuel (record { states = for.states; known = for.known; fuelled = for.fuelled }); started = k.started }

pub returns-in-Wrote-clause-faults : goal.returns-in-Wrote-clause-faults
returns-in-Wrote-clause-faults g c = refl

pub returns-in-Called-clause-faults : goal.returns-in-Called-clause-faults
returns-in-Called-clause-faults g c = c.answer-in-Called.ensures.faults

pub returns-in-Shadowed-clause-faults : goal.returns-in-Shadowed-clause-faults
returns-in-Shadowed-clause-faults g c = c.shadow.ensures.faults
