use Rattle.std.proofs.Common.{refl}
use Rattle.volume_text.proofs.step.script_goes_on.Goals as goal

pub returns-in_ok-push-in-Ok-clause-made : goal.returns-in_ok-push-in-Ok-clause-made
returns-in_ok-push-in-Ok-clause-made c = rw (c.in-Ok.ensures.made, c.in_ok-push-in-Ok.ensures.ok) refl
