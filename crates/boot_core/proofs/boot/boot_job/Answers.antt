use Rattle.boot_core.proofs.WantOfMemory.{wanted_in_boot}
use Rattle.boot_core.proofs.boot.boot_job.Goals as goal

pub returns-clause-ends : goal.returns-clause-ends
returns-clause-ends g c = c.boot_images-booted.ensures.ends

pub returns-clause-memory : goal.returns-clause-memory
returns-clause-memory g c = λ is.
    wanted_in_boot c.args.job.plan c.args.job.images c.boot_images-booted.result.status _ c.boot_images-booted.ensures.ends c.boot_images-booted.ensures.memory is
