use Rattle.std.proofs.Common.{◌≡◌, [], IfOk, List, subst, ◌∙◌, ap}
use Rattle.pi_base.specs.declared.guid.Guid.{Guid}
use Rattle.recorded_boot.specs.{Against.is_installed, Code.lacking_from}
use Rattle.recorded_boot.proofs.Pushing.{lacking_is}
use Rattle.recorded_boot.proofs.follow.lacking.lacking.Goals as goal

pub returns : goal.returns
returns g c s stands any =
    let has = is_installed c.args.phase s c.args.installed.now.handles.now in
    let P : List Guid → Type 0 = λ all. IfOk c.lacking_in.result (λ found. found ≡ all) in
    subst P (ap (lacking_from has []) c.code_in.ensures ∙ lacking_is has c.args.expr.now) (c.lacking_in.ensures s stands any)
