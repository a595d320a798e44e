-- A pool that was just made may be handed in.
use Rattle.std.proofs.Common.{◌≡◌, ℕ, ◌+◌, Bool, true, false, cond, List, Result, Ok, Err, subst, arith, length, nat_lt, replicate, IfOk}
use Rattle.std.proofs.lemmas.List.{length-replicate}
use Rattle.store_model.specs.{declared.store_handle.Pool.Pool, declared.store_handle.StoreFault.StoreFault}
use Rattle.store_model.specs.{declared.store_handle.StoreFault.TheVariants.Full, declared.state.Body.TheVariants.Bytes, StateFacts.IsPool}
use Rattle.store_model.specs.StoreState.{StoreState, appended, pool_of, rounded, next_body, free}
use Rattle.store_model.specs.{StoreCall.HasPool, Service.Pool.pool, Service.Pool.most_pool}
use Rattle.store_model.specs.Service.{Answers, Present, Service}
use Rattle.store_laws.proofs.BodyLaws.{all_stay}

abbrev zeros : ℕ → List ℕ
zeros size = let zero : ℕ = 0 in replicate (rounded size) zero

abbrev refused : Service Pool
refused = Err Full

-- neither test refuses a pool that is made
made : (many none : Bool) (answer : Pool × StoreState) (got : Pool × StoreState) → cond many refused (cond none refused (Ok answer)) ≡ Ok got → answer ≡ got
made true none answer got h = cc
made false true answer got h = cc
made false false answer got h = cc

abbrev new_pool : StoreState → ℕ → Pool × StoreState
new_pool s size = (record { offset = next_body s; size = size }, appended s (pool_of (Bytes (zeros size))))

there : (s : StoreState) (size : ℕ) → IsPool (new_pool s size).1 (new_pool s size).0
there s size =
    let long : length (zeros size) ≡ rounded size = let zero : ℕ = 0 in length-replicate (rounded size) zero in
    (zeros size, all_stay.new s (pool_of (Bytes (zeros size))), omega (arith, long))

pub has_pool : (Now : StoreState → Type 0) (takes : Bool) (s : StoreState) (size : ℕ) (result : Result Pool StoreFault)
    → ((t : StoreState) × Answers takes (pool s size) s result t × Now t) → IfOk result (λ p. Present Now (HasPool p))
has_pool Now takes s size (Err fault) row = tt
has_pool Now takes s size (Ok p) row =
    let got : Pool × StoreState = (p, row.0) in
    let same : new_pool s size ≡ got = made (nat_lt most_pool size) (nat_lt (free s) (rounded size + 8)) (new_pool s size) got row.1 in
    (row.0, row.2, subst (λ (pair : Pool × StoreState). IsPool pair.1 pair.0) same (there s size))
