use Rattle.fv_volume.proofs.Outcomes.{on_ok}
use Rattle.std.proofs.Common.{◌++◌, ap, ◌∙◌}
use Rattle.pi_base.specs.WordText.{hexadecimal}
use Rattle.volume_print.proofs.Putting.{attributes_put}
use Rattle.volume_print.proofs.volume.put_attributes.Goals as goal

pub returns : goal.returns
returns c =
    on_ok c.put_hexadecimal.result _ _
    (λ last. attributes_put c.args.attributes c.args.out.now c.append.new.self c.put_hexadecimal.new.out c.if-attributes-eq0.false c.in_ok-append.ensures.ok
    (last ∙ ap (λ n. c.append.new.self ++ hexadecimal n) c.from.ensures))
    c.put_hexadecimal.ensures
