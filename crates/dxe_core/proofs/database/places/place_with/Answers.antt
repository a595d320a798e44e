use Rattle.dxe_core.proofs.Stretches.{live, not_live, less_by}
use Rattle.dxe_core.proofs.Firsts.{first_with, other_value, none_with}
use Rattle.dxe_core.proofs.Reading.{blank}
use Rattle.dxe_core.proofs.database.places.place_with.Goals as goal

pub returns-then-stretch : goal.returns-then-stretch
returns-then-stretch c = let s = c.stretch_of-stretch in record { place = not_live c.args.handle c.args.interfaces.now s.result.begin s.result.end s.ensures.stretch c.if-stretch.true; within = tt }

pub returns-then-interfaces-place : goal.returns-then-interfaces-place
returns-then-interfaces-place c =
    let s = c.stretch_of-stretch in
    let is = c.args.interfaces.now in
    let first = rw s.ensures.handle at c.in-Some.ensures.place in
    record {
      place = (
        live c.args.handle is s.result.begin s.result.end s.ensures.stretch (less_by s.result.begin s.result.end s.ensures.within.0 c.if-stretch.false),
        first_with c.args.handle c.args.guid.now c.args.value is c.in-Some.place blank first c.if-interfaces-place.true,
      );
      within = c.in-Some.ensures.within;
    }

pub returns-else-interfaces-place : goal.returns-else-interfaces-place
returns-else-interfaces-place c =
    let s = c.stretch_of-stretch in
    let is = c.args.interfaces.now in
    let first = rw s.ensures.handle at c.in-Some.ensures.place in
    record {
      place = (
        live c.args.handle is s.result.begin s.result.end s.ensures.stretch (less_by s.result.begin s.result.end s.ensures.within.0 c.if-stretch.false),
        other_value c.args.handle c.args.guid.now c.args.value is c.in-Some.place blank c.requires.once first c.if-interfaces-place.false,
      );
      within = tt;
    }

pub returns-in-None : goal.returns-in-None
returns-in-None c =
    let s = c.stretch_of-stretch in
    let is = c.args.interfaces.now in
    let none = rw s.ensures.handle at c.in-None.ensures.place in
    record {
      place = (
        live c.args.handle is s.result.begin s.result.end s.ensures.stretch (less_by s.result.begin s.result.end s.ensures.within.0 c.if-stretch.false),
        none_with c.args.handle c.args.guid.now c.args.value is none,
      );
      within = tt;
    }
