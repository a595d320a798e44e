use Rattle.recorded_boot.proofs.OneBoot.{Laws, one_answer, one_boot}
use Rattle.recorded_boot.proofs.follow.laws.one_boot.Goals as goal

pub returns-clause-boot : goal.returns-clause-boot
returns-clause-boot c = one_boot

pub returns-clause-answer : goal.returns-clause-answer
returns-clause-answer c =
    let laws : Laws = record {
      catalogues = c.one_catalogue.ensures.catalogues;
      image_faults = c.one_catalogue.ensures.faults;
      catalogue_or_fault = c.one_catalogue.ensures.apart;
      well = c.catalogues_are_well_formed.ensures;
    } in
    one_answer laws
