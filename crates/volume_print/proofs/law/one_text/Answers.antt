use Rattle.volume_print.proofs.OneText.{Laws, one_text}
use Rattle.volume_print.proofs.law.one_text.Goals as goal

pub returns-clause-one : goal.returns-clause-one
returns-clause-one c =
    let laws : Laws = record {
      volume = c.one_reading.ensures.volumes;
      sections = c.one_reading-2.ensures.sections;
      apart = c.one_reading-2.ensures.apart;
      expression = c.one_reading-3.ensures.read;
      script = c.one_outcome.ensures.script;
    } in
    one_text laws

pub returns-clause-apart : goal.returns-clause-apart
returns-clause-apart c = λ bytes text fault told wrong. c.one_reading.ensures.apart bytes told.volume fault told.is wrong
