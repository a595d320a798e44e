use Rattle.std.proofs.Common.{append_assoc, refl, ap, sym, subst, ◌∙◌, length, [], ◌∷◌}
use Rattle.std.specs.Io.KnownBytes.{Appends}
use Rattle.boot_model.specs.declared.line.Line.TheVariants as L
use Rattle.boot_model.specs.PeiStep.{Moves, in_case, moved_to}
use Rattle.boot_model.specs.Text.{line_text}
use Rattle.store_model.specs.Service.Install.{core_install}
use Rattle.pei_core.specs.{declared.event.Again.TheVariants.All, declared.event.Event.Event, Parts.called_goal, Standing.Has, Steps.IsIdle}
use Rattle.pei_core.proofs.Cases.{case_moves, part, some_none, went}
use Rattle.pei_core.proofs.Going.{first_part, goes_on, none_more, one_text, same_err, steps_fail, stepped_after, texts}
use Rattle.pei_core.proofs.Moving.{call_prints, called_reported, migrate_line, moved, moved_core, moved_lets}
use Rattle.pei_core.proofs.pei.Pei.move_memory.Goals as goal

pub returns-in_err-put_made-clause-row : goal.returns-in_err-put_made-clause-row
returns-in_err-put_made-clause-row g c catalog m fuel for h moves =
    let T = g.S.Sink.text in
    let a = c.migrate-from.ensures.row m.store (h.has.store, moves.1) in
    let is = case_moves catalog m a.0 moves.0.quiet moves.0.frames a.1.0 in
    let mid = moved m a.0 in
    let told = call_prints mid (core_install a.0) in
    let line = L.Migrate m.store.base a.0.base in
    steps_fail _ _ catalog fuel m _ c.from_residual.result c.from_residual.ensures.1 (λ (idle : IsIdle m). some_none _ _ a.1.0 idle.moves)
    (part catalog fuel m (moved_to m a.0) (Moves a.0) (texts (T c.args.sink.now) (T c.put_made.new.sink)) is refl
    (first_part m (moved_to m a.0) line _ told.0 (T c.args.sink.now) (T c.put_made.new.sink) (told.1 ∙ append_assoc m.lines (line ∷ []) told.0) (migrate_line c.migrate-from.result m.store a.0 a.1.1) c.in_err-put_made.ensures.text))

pub returns-in_err-installed-clause-row : goal.returns-in_err-installed-clause-row
returns-in_err-installed-clause-row g c catalog m fuel for h moves =
    let T = g.S.Sink.text in
    let a = c.migrate-from.ensures.row m.store (h.has.store, moves.1) in
    let is = case_moves catalog m a.0 moves.0.quiet moves.0.frames a.1.0 in
    let mid = moved m a.0 in
    let line = L.Migrate m.store.base a.0.base in
    let first = subst (λ l. Appends (T c.args.sink.now) (T c.put_made.new.sink) l) (ap line_text (migrate_line c.migrate-from.result m.store a.0 a.1.1) ∙ sym (one_text line)) c.in_ok-put_made.ensures.text in
    goes_on c.in_err-installed.field-0.0 g.M.PeiStore.TAKES_MEMORY (Has g.M.PeiStore.stands_for c.install_memory.new.self) _ catalog fuel m mid (called_goal mid (core_install a.0)) (line ∷ []) (T c.args.sink.now) (T c.put_made.new.sink) (T c.install_memory.new.sink) c.from_residual-in_err-installed.result
    (same_err _ c.from_residual-in_err-installed.result c.from_residual-in_err-installed.ensures.1) (λ (idle : IsIdle m). some_none _ _ a.1.0 idle.moves) (ap (in_case catalog fuel m) is) refl first
    (c.in_err-installed.ensures.row mid (record { store = a.2; fields = moved_core m a.0 c.args.self.now.core h.has.fields }))

pub returns-in_err-installed-clause-kept : goal.returns-in_err-installed-clause-kept
returns-in_err-installed-clause-kept g c catalog = let k = c.in_err-installed.ensures.kept catalog in record { made = k.made; started = k.started }

pub returns-clause-kept : goal.returns-clause-kept
returns-clause-kept g c catalog = let k = c.in_ok-installed.ensures.kept catalog in record { made = k.made; started = k.started }

pub returns-clause-row : goal.returns-clause-row
returns-clause-row g c catalog m fuel for h moves =
    let T = g.S.Sink.text in
    let a = c.migrate-from.ensures.row m.store (h.has.store, moves.1) in
    let is = case_moves catalog m a.0 moves.0.quiet moves.0.frames a.1.0 in
    let mid = moved m a.0 in
    let line = L.Migrate m.store.base a.0.base in
    let first = subst (λ l. Appends (T c.args.sink.now) (T c.put_made.new.sink) l) (ap line_text (migrate_line c.migrate-from.result m.store a.0 a.1.1) ∙ sym (one_text line)) c.in_ok-put_made.ensures.text in
    let led = c.in_ok-installed.ensures.row mid (record { store = a.2; fields = moved_core m a.0 c.args.self.now.core h.has.fields }) in
    let goal = called_goal mid (core_install a.0) in
    let t = texts (T c.args.sink.now) (T c.install_memory.new.sink) in
    let event : Event = record { changes = c.in_ok-installed.installed.changes; again = All; volumes = 0 } in
    went g.M.PeiStore.TAKES_MEMORY _ catalog fuel m (Moves a.0) goal event t is refl refl refl (λ (idle : IsIdle m). some_none _ _ a.1.0 idle.moves)
    (record {
      there = led.there;
      gone = led.gone;
      again = moved_lets m a.0 a.1.0;
      volumes = ap length (called_reported mid (core_install a.0)) ∙ none_more (length m.reported);
      stepped = stepped_after _ m mid (moved_to m a.0) (line ∷ []) (T c.args.sink.now) (T c.put_made.new.sink) (T c.install_memory.new.sink) refl first led.stepped;
    })
