use Rattle.std.proofs.Common.{◌≡◌, ◌==◌, drop, find}
use Rattle.fv_volume.specs.declared.sections.section_type.TheConstants.{USER_INTERFACE}
use Rattle.explain_text.proofs.catalog.title.user_interface.Given as goal

-- the first of all is the first of those to come
abbrev pub invariant-sections : goal.invariant-sections
invariant-sections l = find (λ section. section.kind == USER_INTERFACE) (drop l.section-index l.sections) ≡ find (λ section. section.kind == USER_INTERFACE) l.sections
