use Rattle.std.proofs.Common.{◌∙◌, sym}
use Rattle.recorded_boot.proofs.Among.{is_among, not_among}
use Rattle.recorded_boot.proofs.follow.against.cause_against.Goals as goal

pub returns-in-Some : goal.returns-in-Some
returns-in-Some g c s stands any =
    ((c.in-Some.field-0.now, c.in-Some.ensures), is_among c.args.start.now c.args.made.now (sym c.is_among.ensures ∙ c.if-is_among.true))

pub returns-in_ok-lacking-in-Some-2 : goal.returns-in_ok-lacking-in-Some-2
returns-in_ok-lacking-in-Some-2 g c s stands any =
    (not_among c.args.start.now c.args.made.now (sym c.is_among.ensures ∙ c.if-is_among.false), (c.in-Some.field-0.now, c.in-Some.ensures, c.in_ok-lacking-in-Some-2.ensures s stands any))
