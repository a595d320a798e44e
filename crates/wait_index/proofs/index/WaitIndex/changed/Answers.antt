use Rattle.std.proofs.Common.{◌∙◌, ap, sym, subst, refl, arith, length, ℕ, List, filter}
use Rattle.wait_index.specs.{Index.watchers_at, Rouse.IsRoused, Rouse.is_asked}
use Rattle.wait_index.proofs.Watched.{has_set, judged_still, watched_still, asked_few}
use Rattle.wait_index.proofs.index.WaitIndex.changed.Goals as goal

pub returns-then-says-there-clause-index : goal.returns-then-says-there-clause-index
returns-then-says-there-clause-index c catalog is =
    let old = c.args.self.now in
    let here = sym c.get.ensures ∙ c.in-Some.is in
    record {
      watched = watched_still old.phase catalog old.watchers old.installed c.put.new.self c.in-Some.slot c.args.there is.watched c.put.ensures.slots c.put.ensures.there c.put.ensures.protocols;
      judged = judged_still catalog old c.put.new.self c.rouse_watchers.new.self c.args.guid.now c.in-Some.slot c.args.there is here c.put.ensures.slots c.put.ensures.there
          (subst (λ (lists : List (List ℕ)). IsRoused (watchers_at lists c.in-Some.slot) old.places c.rouse_watchers.new.self) c.as_slice.ensures c.rouse_watchers.ensures.roused);
      as_many = ap length c.rouse_watchers.ensures.roused.standings ∙ is.as_many;
    }

pub returns-then-says-there-clause-set : goal.returns-then-says-there-clause-set
returns-then-says-there-clause-set c catalog is =
    let old = c.args.self.now in
    let here = sym c.get.ensures ∙ c.in-Some.is in
    record {
      phase = refl;
      has = has_set old.phase catalog old.watchers old.installed c.put.new.self c.args.guid.now c.in-Some.slot c.args.there is.watched here c.put.ensures.slots c.put.ensures.there;
      slots = c.put.ensures.slots;
      order = c.rouse_watchers.ensures.roused.order;
      standings = c.rouse_watchers.ensures.roused.standings;
    }

pub returns-then-says-there-clause-owed : goal.returns-then-says-there-clause-owed
returns-then-says-there-clause-owed c catalog is =
    let old = c.args.self.now in
    let here = sym c.get.ensures ∙ c.in-Some.is in
    let same = ap (λ xs. length (filter (is_asked old.places) xs)) (ap (λ (lists : List (List ℕ)). watchers_at lists c.in-Some.slot) c.as_slice.ensures ∙ is.watched.watched c.args.guid.now c.in-Some.slot here) in
    omega (arith, c.rouse_watchers.ensures.roused.owed, same, asked_few catalog old c.args.guid.now is)
