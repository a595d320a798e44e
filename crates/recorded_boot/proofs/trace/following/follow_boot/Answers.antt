use Rattle.dxe_dispatch.proofs.Chosen.{StepLaws}
use Rattle.recorded_boot.proofs.{Going.Laws, TextRuns.TextRun, WholeTexts.TextBoot, WholeTexts.text_follows}
use Rattle.recorded_boot.proofs.trace.following.follow_boot.Goals as goal

pub boot_by_choice-booted-requires-clause-opening : goal.boot_by_choice-booted-requires-clause-opening
boot_by_choice-booted-requires-clause-opening g c = c.requires.opening

pub returns : goal.returns
returns g c = record {
  row = λ board stands.
      let laws : Laws = record { goes = c.pei_goes_on.ensures.on; own = c.pei_starts_freely.ensures.own; grow = c.pei_lines_grow.ensures; ends = c.pei_ends.ensures; puts = c.text_tells.ensures.goes; parts = c.text_tells.ensures.parts } in
      let run : TextRun = record {
        laws = laws;
        aims = c.cursor_aims.ensures.aims;
        starts = c.pei_starts_freely.ensures.starts;
        opens = c.pei_opens.ensures.opens;
        nearer = c.pei_opens.ensures.nearer;
        board = board;
        catalog = c.args.catalog.now;
        fuel = c.args.fuel;
        names = c.args.names.now.volumes.items;
        first = c.args.text.now;
        well = c.requires.catalog;
        guids = c.names_are_guids.ensures;
        are = c.requires.names;
        none = c.requires.start;
        right = c.requires.right;
      } in
      let steps : StepLaws = record { nearer = c.dxe_opens.ensures.nearer; own = c.dxe_goes_on.ensures.own; first = c.dxe_chooses_by_groups.ensures; groups = c.groups_are_aimed.ensures } in
      let b : TextBoot = record {
        run = run;
        pei_ends_so = c.pei_goes_on.ensures.ended;
        steps = steps;
        on = c.dxe_goes_on.ensures.on;
        dxe_ends_so = c.dxe_goes_on.ensures.ended;
        starts = c.dxe_starts_freely.ensures.starts;
        aims = c.dxe_starts_freely.ensures.aims;
        grow = c.dxe_lines_grow.ensures;
        ends = c.dxe_ends.ensures;
        opens = c.dxe_opens.ensures.opens;
        roots = c.names_lead_to_root.ensures;
        few = c.few_drivers_wait.ensures;
      } in
      text_follows b g.M.PeiStore.stands_for g.M.PeiStore.TAKES_MEMORY c.boot_by_choice-booted.new.sink c.boot_by_choice-booted.result c.followed.result (c.boot_by_choice-booted.ensures.row board stands).by c.boot_by_choice-booted.ensures.faults c.followed.ensures;
}
