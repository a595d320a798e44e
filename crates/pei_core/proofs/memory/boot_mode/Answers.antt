use Rattle.pei_core.proofs.Modes.{gets, sets}
use Rattle.pei_core.proofs.memory.boot_mode.Goals as goal

pub returns-then-form-eq0-clause-row : goal.returns-then-form-eq0-clause-row
returns-then-form-eq0-clause-row g c old h = (old, gets old c.args.frame.now c.args.form c.args.r c.get_boot_mode.result c.if-form-eq0.true (c.get_boot_mode.ensures.row c.args.frame.now old h.0 h.1), h.0)

pub returns-else-form-eq0-clause-row : goal.returns-else-form-eq0-clause-row
returns-else-form-eq0-clause-row g c old h =
    let mid = c.set_boot_mode.ensures.row old h in
    (mid.0, sets old mid.0 c.args.frame.now c.args.form c.args.r c.set_boot_mode.result c.if-form-eq0.false mid.1, mid.2)
