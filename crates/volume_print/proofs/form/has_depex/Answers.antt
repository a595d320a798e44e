use Rattle.std.proofs.Common.{map, take, sym, ap, ◌∙◌}
use Rattle.std.specs.List.{list_any}
use Rattle.volume_text.specs.Open.{is_depex_of}
use Rattle.volume_print.specs.Description.{section_in}
use Rattle.volume_print.proofs.Lists.{map_more, none_more, some_at}
use Rattle.volume_print.proofs.form.has_depex.Goals as goal

pub sections-preserved : goal.sections-preserved
sections-preserved c = λ stream.
    let is = is_depex_of c.args.phase in
    let all = c.args.sections.now in
    let index = c.sections.section-index in
    ap (list_any is) (map_more (section_in stream) all index _ c.sections-test.true)
    ∙ none_more is (map (section_in stream) (take index all)) _ (c.sections.invariant stream) (sym (c.is_depex_of.ensures stream) ∙ c.if-is_depex_of.false)

pub returns-then-is_depex_of : goal.returns-then-is_depex_of
returns-then-is_depex_of c = λ stream.
    sym (some_at (is_depex_of c.args.phase) (section_in stream) c.args.sections.now c.sections.section-index _ c.sections-test.true
    (sym (c.is_depex_of.ensures stream) ∙ c.if-is_depex_of.true))
