use Rattle.boot_core.proofs.{RunEnds.hands_back, RunEnds.run_ends, Wanted.answered_outside}
use Rattle.boot_core.proofs.plan_boot.boot_catalog.Goals as goal

pub returns : goal.returns
returns g c =
    let T = g.S.Sink.text in
    let N = g.S.Sink.faults in
    record {
      ends = run_ends c.pei_runs_end.ensures c.dxe_runs_end.ensures c.boot_plan-ran.result c.args.plan.now c.args.catalog.now c.args.images c.answer_run.result
          (T c.args.sink.now) (T c.boot_plan-ran.new.sink) (N c.args.sink.now) (N c.boot_plan-ran.new.sink) c.requires.catalog.parents
          c.answer_run.ensures c.boot_plan-ran.ensures.row c.boot_plan-ran.ensures.faults;
      memory = answered_outside c.boot_plan-ran.result _ c.args.catalog.now c.args.plan.now.fuel c.answer_run.result _ c.answer_run.ensures c.boot_plan-ran.ensures.memory;
      store = hands_back c.boot_plan-ran.result c.args.plan.now c.args.catalog.now c.args.images c.answer_run.result _ c.answer_run.ensures c.boot_plan-ran.ensures.row;
    }
