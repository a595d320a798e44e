use Rattle.act_code.specs.declared.action.Action.TheVariants as A
use Rattle.dxe_core.specs.Answered.{Serves}
use Rattle.dxe_core.proofs.Handling.{other_form}
use Rattle.dxe_core.proofs.handles.install.Goals as goal

pub install_new-requires : goal.install_new-requires
install_new-requires c = record { counted = c.requires.counted }

pub install_on-requires : goal.install_on-requires
install_on-requires c = record { counted = c.requires.counted }

pub returns-else-form-eq0-clause-row : goal.returns-else-form-eq0-clause-row
returns-else-form-eq0-clause-row c = λ catalog.
    other_form (λ form. Serves catalog c.args.services.now c.args.frame.now (A.DxeInstall form c.args.h c.args.guid.now c.args.v) c.install_on.result c.install_on.new.services)
    c.args.form c.if-form-eq0.false (λ n. c.install_on.ensures.row catalog n)
