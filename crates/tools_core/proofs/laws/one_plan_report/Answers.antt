use Rattle.boot_reasons.proofs.OneRun.{RunLaws, one_boot}
use Rattle.tools_core.proofs.OneCheck as C
use Rattle.tools_core.proofs.OneExplain as E
use Rattle.tools_core.proofs.OnePlan.{Laws, one_plan}
use Rattle.tools_core.proofs.laws.one_plan_report.Goals as goal

pub returns : goal.returns
returns c =
    let plans : C.Laws = record {
      plans = c.one_reading.ensures.plans;
      plan_faults = c.one_reading.ensures.faults;
      plan_or_fault = c.one_reading.ensures.apart;
      catalogues = c.one_catalogue.ensures.catalogues;
      image_faults = c.one_catalogue.ensures.faults;
      catalogue_or_fault = c.one_catalogue.ensures.apart;
    } in
    let runs : RunLaws = record { aims = c.cursor_aims.ensures.aims; orders = c.order_is_of_modules.ensures } in
    let explains : E.Laws = record { plans = plans; well = c.catalogues_are_well_formed.ensures; texts = c.one_catalog_text.ensures; boots = one_boot runs } in
    let laws : Laws = record { explains = explains; traces = c.one_reading-2.ensures.traces; bad = c.one_reading-2.ensures.bad; read_or_bad = c.one_reading-2.ensures.apart } in
    one_plan laws c.one_pass.ensures c.one_hand_off.ensures
