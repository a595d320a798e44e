use Rattle.std.proofs.Common.{◌≡◌, ◌+◌, ◌-◌, ◌++◌, length, map, take, replicate, sym, ap, ◌∙◌, arith, length-append}
use Rattle.fv_volume.specs.{Sections.section_bytes, Sections.body_bytes, Placing.gap}
use Rattle.fv_volume.proofs.{Placings.appended, Sizes.take_one, Sizes.body_more}
use Rattle.fv_volume.proofs.build.section.put_sections.Goals as goal

pub loop-section-preserved : goal.loop-section-preserved
loop-section-preserved c =
    let system = c.args.file_system in
    let section = c.section-item.result in
    let out = c.loop-section.out in
    let before = take c.loop-section.section-index c.args.sections.now in
    let here = body_bytes system before in
    let place : c.len.result - c.len-start.result ≡ 0 + length here =
    omega (arith, ap length c.loop-section.invariant, length-append c.args.out.now here, c.len.ensures, c.len-start.ensures) in
    let filled : c.fill.new.out ≡ out ++ replicate (gap 4 (c.len.result - c.len-start.result)) 0 = c.in_ok-fill.ensures ∙ ap (λ n. out ++ replicate n 0) c.gap.ensures in
    appended 4 0 0 (c.len.result - c.len-start.result) (map (section_bytes system) before) (section_bytes system section) c.args.out.now out c.fill.new.out
    c.put_section.new.out c.loop-section.invariant place filled c.in_ok-put_section.ensures
    ∙ ap (λ xs. c.args.out.now ++ xs) (sym (body_more system before section))
    ∙ ap (λ xs. c.args.out.now ++ body_bytes system xs) (sym (take_one c.args.sections.now c.loop-section.section-index section c.loop-section-test.true c.section-item.is))
