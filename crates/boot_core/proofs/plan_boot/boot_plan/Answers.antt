use Rattle.boot_core.proofs.plan_boot.boot_plan.Goals as goal

pub returns-clause-row : goal.returns-clause-row
returns-clause-row g c = c.boot_store.ensures.row _ c.in_ok-store.ensures

pub returns-clause-memory : goal.returns-clause-memory
returns-clause-memory g c = c.boot_store.ensures.memory _ c.in_ok-store.ensures
