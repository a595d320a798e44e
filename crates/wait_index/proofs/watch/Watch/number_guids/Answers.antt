use Rattle.std.proofs.Common.{◌≡◌, [], ℕ, List, refl, sym, subst, get_or, take, ◌+◌, Some}
use Rattle.pi_base.specs.{declared.guid.Guid.Guid, GuidMap.value_of, Lists.EachPair}
use Rattle.wait_index.proofs.Making.{slots_more}
use Rattle.wait_index.proofs.watch.Watch.number_guids.Goals as goal

pub guids-preserved : goal.guids-preserved
guids-preserved c =
    let none : Guid = record { 0 = [] } in
    let guids = c.args.guids.now in
    let new = c.slot_for.new.self in
    record {
      numbering = c.in_ok-slot.ensures.numbering;
      kept = λ guid slot here. c.in_ok-slot.ensures.covers.kept guid slot (c.guids.invariant.kept guid slot here);
      slots = subst (λ (slots : List ℕ). EachPair (λ g s. value_of new.slots g ≡ Some s) (take (c.guids.guid-index + 1) guids) slots) (sym c.in_ok-push.ensures.ok)
          (slots_more c.guids.self new guids c.guids.slots c.guids.guid-index (get_or guids c.guids.guid-index none) none c.in_ok-slot.slot c.guids-test.true refl c.in_ok-slot.ensures.covers
          c.in_ok-slot.ensures.slot c.guids.invariant.slots);
    }
