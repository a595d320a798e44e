use Rattle.std.proofs.Common.{refl, ap, sym, subst, ◌∙◌, [], Ok}
use Rattle.mod_catalog.specs.Parts.{has_number}
use Rattle.boot_model.specs.declared.line.Line.TheVariants as L
use Rattle.boot_model.specs.declared.line.CallName.TheVariants as C
use Rattle.boot_model.specs.declared.line.Extra.TheVariants as X
use Rattle.boot_model.specs.PeimState.{IsPeimState, state_at}
use Rattle.pei_core.specs.{CoreCall.PrintedPart, Parts.shadow_goal, SecondStarts.IsAgain, Standing.IsCoreFor, declared.core_state.Core.Core}
use Rattle.pei_core.proofs.Going.{first_part, leads_as, leads_fail, led_quietly, quiet_goal, stepped_one, texts}
use Rattle.pei_core.proofs.Shadowing.{behind, registered_for, same_frames, same_start, shadow_core, shadowed_is, shadowed_lets, told}
use Rattle.pei_core.proofs.pei.Pei.shadow.Goals as goal

pub returns-in_err-put_made-clause-row : goal.returns-in_err-put_made-clause-row
returns-in_err-put_made-clause-row g c m frame below is =
    let T = g.S.Sink.text in
    let state = state_at c.args.self.now.core.states c.args.number in
    let at = ap (λ n. state_at c.args.self.now.core.states n) is.number_is in
    let later = behind m frame below state in
    let same = shadowed_is state m frame below (subst (λ x. IsPeimState m frame.module_number x) at (is.has.fields.states frame.module_number)) (ap (λ n. has_number m.started n) is.number_is ∙ is.started) in
    let t = texts (T c.args.sink.now) (T c.put_made.new.sink) in
    leads_fail _ _ m (shadow_goal m frame below) t c.from_residual.result c.from_residual.ensures.1
    (subst (λ x. PrintedPart m x t) (sym same)
    (first_part m later (told state) (L.Call C.Shadow c.register-status.result X.Nothing) [] (T c.args.sink.now) (T c.put_made.new.sink) refl (ap (λ w. L.Call C.Shadow w X.Nothing) c.register-status.ensures.status) c.in_err-put_made.ensures.text))

pub returns-clause-row : goal.returns-clause-row
returns-clause-row g c m frame below is =
    let T = g.S.Sink.text in
    let core = c.args.self.now.core in
    let state = state_at core.states c.args.number in
    let at = ap (λ n. state_at core.states n) is.number_is in
    let later = behind m frame below state in
    let started = ap (λ n. has_number m.started n) is.number_is ∙ is.started in
    let same = shadowed_is state m frame below (subst (λ x. IsPeimState m frame.module_number x) at (is.has.fields.states frame.module_number)) started in
    let registered = c.register-status.ensures.core in
    let status = c.register-status.ensures.status in
    let top = c.answer.ensures frame below (ap (λ (x : Core). x.frames) registered ∙ same_frames state c.args.number core ∙ sym is.has.fields.frames ∙ is.frames) in
    let fields = shadow_core state m frame below core c.register-status.new.self c.answer.new.self c.register-status.result c.args.number is.has.fields is.number_is c.requires.here refl registered status top in
    let lets = shadowed_lets m frame below core.states c.state_of-state.result c.moved.result c.args.number c.by_registering-again.result is.has.fields.states started is.number_is
    (c.state_of-state.ensures ∙ ap (λ xs. state_at xs c.args.number) c.as_slice.ensures) (c.moved.ensures.row m.store is.has.store tt) c.by_registering-again.ensures in
    let t = texts (T c.args.sink.now) (T c.put_made.new.sink) in
    leads_as (Ok c.letting.result) g.M.PeiStore.TAKES_MEMORY _ m (quiet_goal later) (shadow_goal m frame below) t (sym same) refl refl
    (led_quietly _ m later t c.by_registering-again.result c.letting.result c.letting.ensures refl (subst (λ x. IsAgain m x c.by_registering-again.result) same lets)
    (stepped_one _ m later (told state) (L.Call C.Shadow c.register-status.result X.Nothing) (T c.args.sink.now) (T c.put_made.new.sink) refl (ap (λ w. L.Call C.Shadow w X.Nothing) status) c.in_ok-put_made.ensures.text (record { store = is.has.store; fields = fields })))

pub returns-in_err-put_made-clause-kept : goal.returns-in_err-put_made-clause-kept
returns-in_err-put_made-clause-kept g c catalog =
    let core = c.args.self.now.core in
    let state = state_at core.states c.args.number in
    record {
      made = λ fuel for. let later = subst (λ x. IsCoreFor catalog fuel x) (sym c.register-status.ensures.core) (registered_for state catalog fuel c.args.number core c.requires.here refl for) in
          record { states = later.states; known = later.known; fuelled = later.fuelled };
      started = ap (λ (x : Core). x.last_start) c.register-status.ensures.core ∙ same_start state c.args.number core;
    }

pub returns-clause-kept : goal.returns-clause-kept
returns-clause-kept g c catalog =
    let core = c.args.self.now.core in
    let state = state_at core.states c.args.number in
    record {
      made = λ fuel for. let later = subst (λ x. IsCoreFor catalog fuel x) (sym c.register-status.ensures.core) (registered_for state catalog fuel c.args.number core c.requires.here refl for) in
          record { states = later.states; known = later.known; fuelled = later.fuelled };
      started = ap (λ (x : Core). x.last_start) c.register-status.ensures.core ∙ same_start state c.args.number core;
    }
