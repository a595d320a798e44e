use Rattle.std.proofs.Common.{refl}
use Rattle.fv_volume.proofs.build.generated.module.Goals as goal

pub returns : goal.returns
returns c = rw (c.numbered.ensures, c.new.ensures, c.in_ok-push.ensures.ok, c.in_ok-add_expression.ensures, c.new-sections.ensures, c.in_ok-body.ensures) refl
