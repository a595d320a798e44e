use Rattle.fv_volume.proofs.Outcomes.{on_ok}
use Rattle.std.proofs.Common.{◌++◌, ap, ◌∙◌}
use Rattle.volume_print.proofs.Putting.{script_long, script_rest, five}
use Rattle.volume_print.proofs.section.put_script.Goals as goal

pub split_at-requires : goal.split_at-requires
split_at-requires c = script_long c.args.script.now c.in_ok-text.text c.as_slice.result.now c.in_ok-text.ensures c.as_slice.ensures

pub returns : goal.returns
returns c =
    on_ok c.append-5.result _ _
    (λ last. five c.args.out.now c.append.new.self c.append-2.new.self c.append-3.new.self c.append-4.new.self c.append-5.new.self _ _ _ _ _
    c.in_ok-append.ensures.ok (c.in_ok-append-2.ensures.ok ∙ ap (λ x. c.append.new.self ++ x) c.phase_word.ensures) c.in_ok-append-3.ensures.ok
    (c.in_ok-append-4.ensures.ok ∙ ap (λ x. c.append-3.new.self ++ x)
    (c.split_at.ensures.back ∙ script_rest c.args.script.now c.in_ok-text.text c.as_slice.result.now c.in_ok-text.ensures c.as_slice.ensures)) last)
    c.append-5.ensures.ok
