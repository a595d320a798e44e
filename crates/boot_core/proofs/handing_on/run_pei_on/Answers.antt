use Rattle.std.proofs.Common.{IfOk, Result, refl, subst, sym}
use Rattle.pi_base.specs.declared.memory.OutOfMemory.{OutOfMemory}
use Rattle.boot_model.specs.PeiRun.{pei_end}
use Rattle.boot_core.specs.{declared.handing_on.HandOff.HandOff, HandOff.HandsOn}
use Rattle.boot_core.proofs.HandedOn.{hands_on}
use Rattle.boot_core.proofs.handing_on.run_pei_on.Goals as goal

pub boot_by_choice-requires-clause-opening : goal.boot_by_choice-requires-clause-opening
boot_by_choice-requires-clause-opening g c = c.requires.opening

pub returns-in-Ok : goal.returns-in-Ok
returns-in-Ok g c = λ board here.
    let row = c.in-Ok.ensures.row board here in
    let kept = hands_on _ c.boot_by_choice.new.watch.pei.kept _ board _ c.in-Ok.booted c.pei_runs_end.ensures (λ catalog fuel all m reached is. is) (λ m named may. may.is) (λ m number. refl) row in
    let P : Result HandOff OutOfMemory → Type 0 = λ handed. IfOk handed (HandsOn (pei_end board c.args.catalog.now c.args.fuel)) in
    subst P (sym (c.into_kept.ensures kept.0 kept.1)) kept.2
