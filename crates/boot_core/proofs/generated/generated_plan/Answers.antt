use Rattle.boot_core.proofs.GeneratedPlans.{plan_is, volumes_are}
use Rattle.boot_core.proofs.generated.generated_plan.Goals as goal

pub returns : goal.returns
returns c = record { plan = plan_is _ _ c.push.new.self (volumes_are c.append.new.self _ c.push.new.self _ c.new-name.ensures c.in_ok-append.ensures.ok c.new-volumes.ensures c.in_ok-push.ensures.ok) }
