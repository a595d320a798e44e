use Rattle.std.proofs.Common.{refl, sym, subst}
use Rattle.pei_dispatch.specs.{Queue.parts_in, Choices.IsPlaceFor}
use Rattle.pei_dispatch.proofs.aiming.aim.Goals as goal

pub returns-in-Some-clause-place : goal.returns-in-Some-clause-place
returns-in-Some-clause-place c = subst (λ o. IsPlaceFor (parts_in c.args.queue.now) c.args.queue.now.cursor o c.aim.new.self.cursor) (sym c.in-Some.is) (c.aim.ensures.cursor, c.aim.ensures.stays)

pub returns-in-None-clause-place : goal.returns-in-None-clause-place
returns-in-None-clause-place c = subst (λ o. IsPlaceFor (parts_in c.args.queue.now) c.args.queue.now.cursor o c.args.queue.now.cursor) (sym c.in-None.is) refl
