use Rattle.boot_core.proofs.Causes.{memory_kept}
use Rattle.boot_core.proofs.boot.run.Goals as goal

pub returns-in-Boot-clause-ends : goal.returns-in-Boot-clause-ends
returns-in-Boot-clause-ends g c = rw c.in-Boot.is c.boot_job.ensures.ends

pub returns-in-Boot-clause-memory : goal.returns-in-Boot-clause-memory
returns-in-Boot-clause-memory g c = rw c.in-Boot.is c.boot_job.ensures.memory

pub returns-in-Audit-clause-ends : goal.returns-in-Audit-clause-ends
returns-in-Audit-clause-ends g c = rw c.in-Audit.is (rw c.as_slice.ensures at c.audit_images.ensures)

pub returns-in-Audit-clause-memory : goal.returns-in-Audit-clause-memory
returns-in-Audit-clause-memory g c = λ is. rw c.in-Audit.is (memory_kept _ (λ _. ⊥) ⊥ c.audit_images.result _ (rw c.as_slice.ensures at c.audit_images.ensures) (λ begun. begun) is)

pub returns-in-Generate-clause-ends : goal.returns-in-Generate-clause-ends
returns-in-Generate-clause-ends g c = rw c.in-Generate.is c.boot_generated.ensures

pub returns-in-Generate-clause-memory : goal.returns-in-Generate-clause-memory
returns-in-Generate-clause-memory g c = λ is. rw c.in-Generate.is (memory_kept _ (λ _. ⊥) ⊥ c.boot_generated.result _ c.boot_generated.ensures (λ begun. begun) is)
