use Rattle.tools_core.proofs.OneContent.{Laws, one_content}
use Rattle.tools_core.proofs.laws.one_content_report.Goals as goal

pub returns : goal.returns
returns c =
    let laws : Laws = record {
      expressions = c.one_expression.ensures;
      scripts = c.one_script.ensures;
      bad_expressions = c.one_bad_line.ensures.expressions;
      bad_scripts = c.one_bad_line.ensures.scripts;
      reads = c.one_reading.ensures.read;
      malformed_at = c.one_reading.ensures.malformed;
      reads_or_malformed = c.one_reading.ensures.apart;
      codes = c.one_outcome.ensures.script;
      faults = c.one_outcome.ensures.fault;
      code_or_fault = c.one_outcome.ensures.apart;
      files = c.one_reading-2.ensures.files;
      bad_lines = c.one_reading-2.ensures.lines;
      volumes = c.one_volume.ensures.volume;
      volume_faults = c.one_volume.ensures.fault;
      volume_or_fault = c.one_volume.ensures.apart;
      volume_texts = c.one_text.ensures.one;
      text_or_fault = c.one_text.ensures.apart;
      image_faults = c.one_reading-3.ensures.faults;
      file_or_line = c.one_reading-2.ensures.apart;
    } in
    one_content laws
