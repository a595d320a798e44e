use Rattle.std.proofs.Common.{◌==◌, ◌≤◌, ◌+◌, length, sym}
use Rattle.fv_volume.specs.{declared.sections.section.Section.Section, declared.sections.section_type.TheConstants.USER_INTERFACE}
use Rattle.explain_text.proofs.FirstFound.{found_holds}
use Rattle.explain_text.proofs.catalog.title.text_in.Goals as goal

pub section_body-requires : goal.section_body-requires
section_body-requires c =
    found_holds (λ (s : Section). s.body_at + s.body_len ≤ length c.args.body.now) (λ s. s.kind == USER_INTERFACE) c.args.sections.now _ c.requires (sym c.in-Some.ensures)
