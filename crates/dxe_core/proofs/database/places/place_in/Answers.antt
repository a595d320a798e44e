use Rattle.std.proofs.Common.{sym, ◌∙◌, arith}
use Rattle.dxe_core.proofs.{Stretches.within, Reading.blank, Reading.one_more}
use Rattle.dxe_core.proofs.Firsts.{place_first, place_none, first_within}
use Rattle.dxe_core.proofs.database.places.place_in.Goals as goal

pub loop-place-init : goal.loop-place-init
loop-place-init c = record {
  end = (within c.args.stretch.handle c.args.interfaces.now c.args.stretch.begin c.args.stretch.end c.requires).1;
  before = λ k from to. absurd (omega (arith, from, to));
}

pub loop-place-preserved : goal.loop-place-preserved
loop-place-preserved c = record { end = c.loop-place.invariant.end; before = one_more c.args.interfaces.now c.args.guid.now c.args.stretch.begin c.loop-place.place c.loop-place.invariant.before (sym c.eq.ensures ∙ c.if-eq.false) }

pub returns-then-eq : goal.returns-then-eq
returns-then-eq c =
    let is = c.args.interfaces.now in
    let at = c.loop-place.place in
    let first = place_first c.args.stretch.handle c.args.guid.now is c.args.stretch.begin c.args.stretch.end at blank c.requires c.loop-place.auto.place c.loop-place-test.true
    (sym c.eq.ensures ∙ c.if-eq.true) c.loop-place.invariant.before in
    record { place = first; within = first_within _ is at first }

pub returns : goal.returns
returns c =
    let end = c.loop-place-test.false in
    record {
      place = place_none c.args.stretch.handle c.args.guid.now c.args.interfaces.now c.args.stretch.begin c.args.stretch.end blank c.requires (λ k from to. c.loop-place.invariant.before k from (omega (arith, end, to)));
      within = tt;
    }
