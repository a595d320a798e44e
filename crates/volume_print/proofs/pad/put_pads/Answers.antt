use Rattle.std.proofs.Common.{arith}
use Rattle.fv_volume.proofs.Outcomes.{on_ok}
use Rattle.volume_print.proofs.Stretches.{pads_go, pads_end}
use Rattle.volume_print.proofs.pad.put_pads.Goals as goal

pub pads-preserved : goal.pads-preserved
pads-preserved c =
    let rest = c.pads.rest.now in
    record {
      long = omega (arith, c.pads-test.true, c.split_at.ensures.back_len);
      told = pads_go c.args.out.now c.pads.out c.put_pad.new.out c.args.stretch.now rest c.split_at.result.0.now c.split_at.result.1.now c.split_at.ensures.front c.split_at.ensures.back
          c.pads-test.true c.pads.invariant.told c.in_ok-put_pad.ensures;
    }

pub returns : goal.returns
returns c =
    on_ok c.put_pad-2.result _ _
    (λ last. pads_end c.args.out.now c.pads.out c.put_pad-2.new.out c.args.stretch.now c.pads.rest.now c.pads.invariant.long (omega (arith, c.pads-test.false)) c.pads.invariant.told last)
    c.put_pad-2.ensures
