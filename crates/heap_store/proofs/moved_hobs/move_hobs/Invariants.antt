use Rattle.std.proofs.Common.{◌≡◌, ◌+◌, ℕ, false, take}
use Rattle.store_model.specs.StoreState.{Range, StoreState, end_place}
use Rattle.store_laws.specs.Moving.{Done}
use Rattle.heap_store.specs.{Half.IsHalf, Pages.with_hobs, Ready.IsReady}
use Rattle.heap_store.proofs.HobWalk.{place_of}
use Rattle.heap_store.proofs.moved_hobs.move_hobs.Given as goal

abbrev pub invariant-hobs : goal.invariant-hobs
invariant-hobs l = (s : StoreState) (to : Range) (done : Done) → IsReady s to l.course → ((place : ℕ) → done.pages place ≡ false) → IsHalf s to done l.fn.memory → l.end ≡ to.base + end_place s
    → IsHalf s to (with_hobs done 56 (take l._step s.hobs)) l.memory × (l.at ≡ to.base + place_of 56 s.hobs l._step)
