use Rattle.tools_core.proofs.OneCheck as C
use Rattle.tools_core.proofs.OneFollow.{Laws, one_follow}
use Rattle.tools_core.proofs.laws.one_follow_report.Goals as goal

pub returns : goal.returns
returns c =
    let plans : C.Laws = record {
      plans = c.one_reading.ensures.plans;
      plan_faults = c.one_reading.ensures.faults;
      plan_or_fault = c.one_reading.ensures.apart;
      catalogues = c.one_catalogue.ensures.catalogues;
      image_faults = c.one_catalogue.ensures.faults;
      catalogue_or_fault = c.one_catalogue.ensures.apart;
    } in
    let laws : Laws = record {
      plans = plans;
      well = c.catalogues_are_well_formed.ensures;
      orders = c.one_reading-2.ensures.orders;
      bad_lines = c.one_reading-2.ensures.faults;
      order_or_bad = c.one_reading-2.ensures.apart;
      short = c.one_reading-2.ensures.short;
      boot = c.one_boot.ensures.boot;
    } in
    one_follow laws
