use Rattle.std.proofs.Common.{refl, ap, sym, subst, length, ◌∙◌, [], Ok}
use Rattle.pi_base.specs.declared.word.Word.TheVariants.{Success}
use Rattle.boot_model.specs.declared.line.Line.TheVariants as L
use Rattle.boot_model.specs.PeiAction.{status_of}
use Rattle.store_model.specs.Service.Install.{core_install}
use Rattle.boot_laws.proofs.StoreMoved.{KeepsMoved, core_moved}
use Rattle.pei_core.specs.{declared.event.Again.TheVariants.Nobody, Parts.called_goal}
use Rattle.pei_core.proofs.Going.{first_part, leads_fail, led_as, led_quietly, none_more, part_as, stepped_one, texts}
use Rattle.pei_core.proofs.Moving.{behind, behind_core, called_quiet, refusal_is, refused, refused_core}
use Rattle.pei_core.proofs.SecondStarts.{nobody}
use Rattle.pei_core.proofs.pei.Pei.install_memory.Goals as goal

pub returns-in_err-put_made-in-Ok-clause-row : goal.returns-in_err-put_made-in-Ok-clause-row
returns-in_err-put_made-in-Ok-clause-row g c m h =
    let T = g.S.Sink.text in
    let a = c.in-Ok.ensures.row m.store h.store in
    let line = L.CoreInstall Success in
    leads_fail _ _ m _ _ c.from_residual.result c.from_residual.ensures.1
    (part_as m _ _ (texts (T c.args.sink.now) (T c.put_made.new.sink)) (ap (called_goal m) a.1)
    (first_part m (behind m c.in-Ok.sweep a.0) line line [] (T c.args.sink.now) (T c.put_made.new.sink) refl refl c.in_err-put_made-in-Ok.ensures.text))

pub returns-in_err-put_made-in-Err-clause-row : goal.returns-in_err-put_made-in-Err-clause-row
returns-in_err-put_made-in-Err-clause-row g c m h =
    let T = g.S.Sink.text in
    let a = c.in-Err.ensures.row m.store h.store in
    let status = c.in_ok-status-in-Err.status in
    let is = refusal_is g.M.PeiStore.TAKES_MEMORY (core_install m.store) m.store a.0 c.in-Err.fault status a.1 (sym c.status.ensures ∙ c.in_ok-status-in-Err.ensures.ok_part) in
    leads_fail _ _ m _ _ c.from_residual-in_err-put_made-in-Err.result c.from_residual-in_err-put_made-in-Err.ensures.1
    (part_as m _ _ (texts (T c.args.sink.now) (T c.put_made-in-Err.new.sink)) (ap (called_goal m) is.is)
    (first_part m (refused m (status_of c.in-Err.fault)) (L.CoreInstall (status_of c.in-Err.fault)) (L.CoreInstall status) [] (T c.args.sink.now) (T c.put_made-in-Err.new.sink) refl (ap L.CoreInstall (sym is.told)) c.in_err-put_made-in-Err.ensures.text))

pub returns-in_ok-put_made-in-Ok-clause-row : goal.returns-in_ok-put_made-in-Ok-clause-row
returns-in_ok-put_made-in-Ok-clause-row g c m h =
    let T = g.S.Sink.text in
    let a = c.in-Ok.ensures.row m.store h.store in
    let line = L.CoreInstall Success in
    led_as _ m _ _ _ _ (ap (called_goal m) a.1) (record {
      there = ap (λ x. x.there.items) c.installed.ensures;
      gone = ap (λ x. x.gone) c.installed.ensures;
      again = called_quiet m (Ok (c.in-Ok.sweep, a.0)) (subst (KeepsMoved m.store) a.1 (core_moved m.store));
      volumes = none_more (length m.reported);
      stepped = stepped_one _ m (behind m c.in-Ok.sweep a.0) line line (T c.args.sink.now) (T c.put_made.new.sink) refl refl c.in_ok-put_made-in-Ok.ensures.text
          (record { store = a.2; fields = behind_core m c.in-Ok.sweep a.0 c.args.self.now.core h.fields });
    })

pub returns-in_ok-put_made-in-Err-clause-row : goal.returns-in_ok-put_made-in-Err-clause-row
returns-in_ok-put_made-in-Err-clause-row g c m h =
    let T = g.S.Sink.text in
    let a = c.in-Err.ensures.row m.store h.store in
    let status = c.in_ok-status-in-Err.status in
    let is = refusal_is g.M.PeiStore.TAKES_MEMORY (core_install m.store) m.store a.0 c.in-Err.fault status a.1 (sym c.status.ensures ∙ c.in_ok-status-in-Err.ensures.ok_part) in
    let later = refused m (status_of c.in-Err.fault) in
    led_as _ m _ _ _ c.quiet.result (ap (called_goal m) is.is)
    (led_quietly _ m later (texts (T c.args.sink.now) (T c.put_made-in-Err.new.sink)) Nobody c.quiet.result c.quiet.ensures refl (nobody m later refl refl refl)
    (stepped_one _ m later (L.CoreInstall (status_of c.in-Err.fault)) (L.CoreInstall status) (T c.args.sink.now) (T c.put_made-in-Err.new.sink) refl (ap L.CoreInstall (sym is.told)) c.in_ok-put_made-in-Err.ensures.text
    (record { store = subst (g.M.PeiStore.stands_for c.core_install.new.self) is.same a.2; fields = refused_core m (status_of c.in-Err.fault) c.args.self.now.core h.fields })))

pub core_install-requires : goal.core_install-requires
core_install-requires g c = record { state = c.requires.state }

pub returns-in_err-put_made-in-Ok-clause-kept : goal.returns-in_err-put_made-in-Ok-clause-kept
returns-in_err-put_made-in-Ok-clause-kept g c catalog = record { made = λ fuel for. record { states = for.states; known = for.known; fuelled = for.fuelled }; started = refl }

pub returns-in_err-status-in-Err-clause-kept : goal.returns-in_err-status-in-Err-clause-kept
returns-in_err-status-in-Err-clause-kept g c catalog = record { made = λ fuel for. record { states = for.states; known = for.known; fuelled = for.fuelled }; started = refl }

pub returns-in_err-put_made-in-Err-clause-kept : goal.returns-in_err-put_made-in-Err-clause-kept
returns-in_err-put_made-in-Err-clause-kept g c catalog = record { made = λ fuel for. record { states = for.states; known = for.known; fuelled = for.fuelled }; started = refl }

pub returns-in_ok-put_made-in-Ok-clause-kept : goal.returns-in_ok-put_made-in-Ok-clause-kept
returns-in_ok-put_made-in-Ok-clause-kept g c catalog = record { made = λ fuel for. record { states = for.states; known = for.known; fuelled = for.fuelled }; started = refl }

pub returns-in_ok-put_made-in-Err-clause-kept : goal.returns-in_ok-put_made-in-Err-clause-kept
returns-in_ok-put_made-in-Err-clause-kept g c catalog = record { made = λ fuel for. record { states = for.states; known = for.known; fuelled = for.fuelled }; started = refl }

pub returns-in_ok-put_made-in-Ok-clause-faults : goal.returns-in_ok-put_made-in-Ok-clause-faults
returns-in_ok-put_made-in-Ok-clause-faults g c = c.in_ok-put_made-in-Ok.ensures.cause

pub returns-in_ok-put_made-in-Err-clause-faults : goal.returns-in_ok-put_made-in-Err-clause-faults
returns-in_ok-put_made-in-Err-clause-faults g c = c.in_ok-put_made-in-Err.ensures.cause
