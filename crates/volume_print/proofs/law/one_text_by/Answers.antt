use Rattle.volume_print.proofs.OneText.{Laws, one_text_by}
use Rattle.volume_print.proofs.law.one_text_by.Goals as goal

pub returns : goal.returns
returns c =
    let laws : Laws = record {
      volume = c.one_reading.ensures.volumes;
      sections = c.one_reading-2.ensures.sections;
      apart = c.one_reading-2.ensures.apart;
      expression = c.one_reading-3.ensures.read;
      script = c.one_outcome.ensures.script;
    } in
    one_text_by laws
