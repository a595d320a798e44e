use Rattle.std.proofs.Common.{◌≡◌, ℕ, Bool, true, false, if◌then◌else◌, List, [], ◌∷◌, ◌++◌, Some, None, refl, sym, ap, ◌∙◌}
use Rattle.pi_base.specs.{declared.guid.Guid.Guid, Guids.same_guid, GuidMap.value_of, GuidMap.IsPut}
use Rattle.wait_index.specs.declared.watch.Watch.{Watch}
use Rattle.wait_index.proofs.{Numbering.numbered_more, Truth.one_guid, Truth.same_self}
use Rattle.wait_index.proofs.watch.Watch.slot_for.Goals as goal

pub returns-clause-numbering : goal.returns-clause-numbering
returns-clause-numbering c =
    let new : Watch = record { slots = c.insert.new.self; watchers = c.push.new.self } in
    numbered_more c.args.self.now new c.args.guid.now c.len-slot.result c.requires c.len-slot.ensures c.in_ok-insert.ensures.ok (c.in_ok-push.ensures.ok ∙ ap (λ (l : List ℕ). c.args.self.now.watchers ++ l ∷ []) c.new.ensures)

-- one that had no slot has one now, and each other one that it had
put_here : (old new : List (Guid × ℕ)) (guid other : Guid) (slot : ℕ) → IsPut old guid slot new → same_guid guid other ≡ true
    → value_of new other ≡ Some slot
put_here old new guid other slot put same = put other ∙ ap (λ b. if b then Some slot else value_of old other) same

still_there : (old new : List (Guid × ℕ)) (guid other : Guid) (slot at : ℕ) (same : Bool) → same_guid guid other ≡ same
    → value_of old guid ≡ None → IsPut old guid slot new → value_of old other ≡ Some at → value_of new other ≡ Some at
still_there old new guid other slot at true same none put here =
    let never : None ≡ Some at = sym none ∙ ap (value_of old) (one_guid guid other same) ∙ here in absurd (cc)
still_there old new guid other slot at false same none put here =
    put other ∙ ap (λ b. if b then Some slot else value_of old other) same ∙ here

pub returns-clause-covers : goal.returns-clause-covers
returns-clause-covers c =
    let old = c.args.self.now.slots in
    let new = c.insert.new.self in
    let put = c.in_ok-insert.ensures.ok in
    let none = sym c.get.ensures ∙ c.in_default.is in
    record {
      kept = λ guid slot here. still_there old new c.args.guid.now guid c.len-slot.result slot _ refl none put here;
      covered = λ guid same. (c.len-slot.result, put_here old new c.args.guid.now guid c.len-slot.result put same);
    }

pub returns-clause-slot : goal.returns-clause-slot
returns-clause-slot c = put_here c.args.self.now.slots c.insert.new.self c.args.guid.now c.args.guid.now c.len-slot.result
    c.in_ok-insert.ensures.ok (same_self c.args.guid.now)

pub returns-in-Some : goal.returns-in-Some
returns-in-Some c =
    let there = sym c.get.ensures ∙ c.in-Some.is in
    record {
      numbering = c.requires;
      covers = record {
        kept = λ guid slot here. here;
        covered = λ guid same. (c.in-Some.slot, ap (value_of c.args.self.now.slots) (sym (one_guid c.args.guid.now guid same)) ∙ there);
      };
      slot = there;
    }
