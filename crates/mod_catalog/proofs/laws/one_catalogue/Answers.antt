use Rattle.mod_catalog.proofs.{OneCatalogue.Laws, OneCatalogue.one_catalogue, CatalogueOrFault.catalogue_or_fault, OneFault.one_image_fault}
use Rattle.mod_catalog.proofs.laws.one_catalogue.Goals as goal

pub returns : goal.returns
returns c =
    let laws : Laws = record {
      volumes = c.one_reading.ensures.volumes;
      volume_faults = c.one_reading.ensures.faults;
      volume_or_fault = c.one_reading.ensures.apart;
      sections = c.one_reading-2.ensures.sections;
      section_faults = c.one_reading-2.ensures.faults;
      sections_or_fault = c.one_reading-2.ensures.apart;
      scripts = c.one_outcome.ensures.script;
      script_faults = λ bytes a b are p q. c.one_outcome.ensures.fault bytes a b are p q;
      script_or_fault = λ bytes a b are p q. c.one_outcome.ensures.apart bytes a b are p q;
      expressions = c.one_reading-3.ensures.read;
      malformed = c.one_reading-3.ensures.malformed;
      expression_or_malformed = c.one_reading-3.ensures.apart;
    } in
    record {
      catalogues = one_catalogue laws;
      faults = one_image_fault laws;
      apart = catalogue_or_fault laws;
    }
