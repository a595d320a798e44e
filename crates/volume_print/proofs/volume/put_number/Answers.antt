use Rattle.fv_volume.proofs.Outcomes.{on_ok}
use Rattle.volume_print.proofs.Putting.{number_put}
use Rattle.volume_print.proofs.volume.put_number.Goals as goal

pub returns : goal.returns
returns c =
    on_ok c.put_decimal.result _ _
    (number_put c.args.key.now c.args.usual c.args.n c.args.out.now c.append.new.self c.put_decimal.new.out c.if-n-usual.false c.in_ok-append.ensures.ok)
    c.put_decimal.ensures
