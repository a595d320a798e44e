use Rattle.std.proofs.Common.{◌+◌, ap, ◌∙◌, min}
use Rattle.volume_print.proofs.Rooms.{sections_longer}
use Rattle.volume_print.proofs.place.sections_len.Goals as goal

pub sections-preserved : goal.sections-preserved
sections-preserved c =
    let end = c.sections.end in
    sections_longer c.args.file_system c.args.stream.now c.args.sections.now c.sections.section-index _ end c.saturating_add.result c.section_size.result c.saturating_add-end.result
    c.sections-test.true c.requires c.sections.invariant (c.saturating_add.ensures ∙ ap (λ n. min (end + n) 18446744073709551615) c.gap.ensures) c.section_size.ensures c.saturating_add-end.ensures
