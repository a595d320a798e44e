use Rattle.pei_core.proofs.{Going.texts, Sounded.names_are, Sounded.steps_sound, StartedSteps.steps_run_started}
use Rattle.pei_core.proofs.pei.Pei.step.Goals as goal

pub step_by_case-requires-clause-made : goal.step_by_case-requires-clause-made
step_by_case-requires-clause-made g c = c.requires.made

pub step_by_case-requires-clause-state : goal.step_by_case-requires-clause-state
step_by_case-requires-clause-state g c = c.requires.state

pub returns-clause-row : goal.returns-clause-row
returns-clause-row g c m fuel for h =
    let T = g.S.Sink.text in
    let catalog = c.args.catalog.now in
    let facts = g.met.M.PeiStore.facts c.args.self.now.store m.store h.has.store in
    let after = c.steps_keep_sound.ensures catalog fuel m c.requires.catalog.few_modules facts h.sound in
    let runs = steps_run_started catalog fuel m (names_are catalog c.requires.catalog) facts h.started in
    steps_sound c.step_by_case.result g.M.PeiStore.TAKES_MEMORY g.M.PeiStore.stands_for c.step_by_case.new.self catalog fuel m (texts (T c.args.sink.now) (T c.step_by_case.new.sink)) h.sound h.started after runs (c.step_by_case.ensures.row m fuel for h tt)
