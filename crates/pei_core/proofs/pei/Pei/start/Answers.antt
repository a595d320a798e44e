use Rattle.std.proofs.Common.{refl, sym, ap, subst, IsTrue}
use Rattle.phase_parts.specs.Found.{blocks_of}
use Rattle.pi_base.specs.declared.phase.Phase.TheVariants.{Pei}
use Rattle.boot_model.specs.{PeimState.awaits_start, PeimState.state_at, PeiStep.started}
use Rattle.boot_trace.specs.StartLines.{started_lines}
use Rattle.pei_core.specs.Standing.{IsCoreFor, StandsFor}
use Rattle.pei_core.proofs.Begun.{begun, begun_for, is_there}
use Rattle.pei_core.proofs.{Going.puts_to, PeimStates.state_is, StartedSteps.starts_run_started}
use Rattle.pei_core.proofs.pei.Pei.start.Goals as goal

pub returns-clause-row : goal.returns-clause-row
returns-clause-row g c m h licensed =
    let T = g.S.Sink.text in
    let catalog = c.args.catalog.now in
    let number = c.args.number in
    let core = c.args.self.now.core in
    let state = state_at core.states number in
    let first = c.requires.state in
    let waits = subst (λ s. IsTrue (awaits_start s)) (state_is first.0 number state (first.1.has.fields.states number)) first.3 in
    let inside = is_there catalog c.requires.made.0 number core c.requires.made.1 c.requires.part in
    let b = begun catalog m number c.args.licence state core c.start-runs.new.self c.start_line.result c.start-runs.result c.requires.part licensed waits refl inside h.has.fields c.start-runs.ensures.core c.start-runs.ensures.runs (c.start_line.ensures m) in
    let stands : StandsFor g.M.PeiStore.stands_for (record { store = c.args.self.now.store; core = c.start-runs.new.self }) (started catalog m number) = record {
      has = record { store = subst (g.M.PeiStore.stands_for c.args.self.now.store) (sym b.store) h.has.store; fields = b.fields };
      sound = c.starts_keep_sound.ensures catalog m number c.requires.catalog.few_modules h.sound;
      started = starts_run_started catalog m number h.started;
    } in
    puts_to c.put_start.result (StandsFor g.M.PeiStore.stands_for (record { store = c.args.self.now.store; core = c.start-runs.new.self })) m (started catalog m number) (started_lines c.start_line.result c.start-runs.result) (T c.args.sink.now) (T c.put_start.new.sink) b.printed c.put_start.ensures.text stands

pub returns-clause-kept : goal.returns-clause-kept
returns-clause-kept g c =
    let core = c.args.self.now.core in
    let state = state_at core.states c.args.number in
    let same = c.start-runs.ensures.core in
    record { made = λ fuel for. subst (λ x. IsCoreFor c.args.catalog.now fuel x) (sym same) (begun_for c.args.catalog.now fuel state c.args.number (blocks_of Pei c.args.catalog.now c.args.number) core refl (is_there c.args.catalog.now c.requires.made.0 c.args.number core c.requires.made.1 c.requires.part) for); started = ap (λ x. x.last_start) same }
