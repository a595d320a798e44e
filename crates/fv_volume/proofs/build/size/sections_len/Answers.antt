use Rattle.std.proofs.Common.{◌≡◌, ◌+◌, length, take, sym, ap, ◌∙◌, min}
use Rattle.fv_volume.specs.{Sections.body_bytes, Sections.section_size, Placing.gap}
use Rattle.fv_volume.proofs.Sizes.{saturated, take_one, length-body_more}
use Rattle.fv_volume.proofs.build.size.sections_len.Goals as goal

pub loop-section-preserved : goal.loop-section-preserved
loop-section-preserved c =
    let system = c.args.file_system in
    let section = c.section-item.result in
    let before = take c.loop-section.section-index c.args.sections.now in
    let more = ap (λ xs. length (body_bytes system xs)) (take_one c.args.sections.now c.loop-section.section-index section c.loop-section-test.true c.section-item.is)
    ∙ length-body_more system before section in
    let size : c.section_size.result ≡ min (section_size system (length section.body)) 18446744073709551615 = c.section_size.ensures ∙ ap (λ n. min (section_size system n) 18446744073709551615) c.len.ensures in
    let place : c.saturating_add.result ≡ min (c.loop-section.end + gap 4 c.loop-section.end) 18446744073709551615 = c.saturating_add.ensures ∙ ap (λ n. min (c.loop-section.end + n) 18446744073709551615) c.gap.ensures in
    saturated 18446744073709551615 (length (body_bytes system before)) c.loop-section.end (gap 4) c.saturating_add.result c.section_size.result
    (section_size system (length section.body)) c.saturating_add-end.result c.loop-section.invariant place size c.saturating_add-end.ensures
    ∙ ap (λ n. min n 18446744073709551615) (sym more)
