use Rattle.boot_core.specs.Choices.{choices_of}
use Rattle.boot_core.proofs.FreeBoots.{Laws, are_free}
use Rattle.boot_core.proofs.whole.free.choices_are_free.Goals as goal

pub returns : goal.returns
returns g c = λ catalog fuel first.
    let laws : Laws = record {
      aims = c.cursor_aims.ensures.aims;
      pei = c.pei_starts_freely.ensures.own;
      dxe = c.dxe_goes_on.ensures.own;
      first = c.dxe_chooses_by_groups.ensures;
      groups = c.groups_are_aimed.ensures;
    } in
    are_free laws (choices_of (record { rules = g.C.Choice.rules c.args.choice.now; text = g.S.Sink.text; faults = g.S.Sink.faults }) catalog fuel first)
