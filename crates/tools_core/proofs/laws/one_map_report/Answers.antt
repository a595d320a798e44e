use Rattle.tools_core.proofs.OneMapReport.{Laws, one_map_report}
use Rattle.tools_core.proofs.laws.one_map_report.Goals as goal

pub returns : goal.returns
returns c =
    let laws : Laws = record {
      spaces = c.one_space.ensures.spaces;
      faults = c.one_space.ensures.faults;
      space_or_fault = c.one_space.ensures.apart;
      commands = c.one_reading.ensures.commands;
      bad_lines = c.one_reading.ensures.lines;
      commands_or_line = c.one_reading.ensures.apart;
      maps = c.one_map.ensures;
    } in
    one_map_report laws
