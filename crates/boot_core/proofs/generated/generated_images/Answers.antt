use Rattle.std.proofs.Common.{◌∙◌, subst}
use Rattle.pi_base.specs.Field.{AreBytes}
use Rattle.boot_core.proofs.generated.generated_images.Goals as goal

pub returns-in_ok-push-in-Ok-clause-of_bytes : goal.returns-in_ok-push-in-Ok-clause-of_bytes
returns-in_ok-push-in-Ok-clause-of_bytes c = subst AreBytes (c.as_slice.ensures ∙ c.in-Ok.ensures.volume) c.told_of.ensures
