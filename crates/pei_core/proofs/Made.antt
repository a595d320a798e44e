-- What a service makes stands before the end HOB of the state after it, and the heap's base stays.
use Rattle.std.proofs.Common.{◌≡◌, ◌≤◌, ◌+◌, ◌++◌, [], ◌∷◌, ℕ, Bool, true, false, arith, refl, sym, subst, cond, Option, Some, None, Ok, Err, sum_by, nat_lt, replicate}
use Rattle.std.specs.Prelude.{⊤}
use Rattle.std.proofs.lemmas.List.Sums.{sum_by_push}
use Rattle.pi_base.specs.declared.guid.Guid.{Guid}
use Rattle.store_model.specs.{declared.store_handle.DescKind.DescKind, declared.store_handle.GuidFrom.GuidFrom}
use Rattle.store_model.specs.{declared.store_handle.Pool.Pool, declared.state.Body.Body}
use Rattle.store_model.specs.declared.store_handle.StoreFault.TheVariants as F
use Rattle.store_model.specs.StoreState.{StoreState, appended, descriptor_len, end_place, free, header_len, hob_len, next_body, pool_of, rounded}
use Rattle.store_model.specs.{declared.state.Body.TheVariants.Bytes, declared.state.Body.TheVariants.Descriptor, Service.Service}
use Rattle.store_model.specs.Service.Pool.{pool, most_pool}
use Rattle.store_model.specs.Service.Descriptor.{desc, desc_of, guid_from}

abbrev pub Stands : {A : Type 0} → (A → ℕ) → StoreState → Service A → Type 0
Stands place s (Ok (made, new)) = (place made ≤ end_place new) × (new.base ≡ s.base)
Stands place s (Err fault) = ⊤

next_stands : (s : StoreState) (body : Body) → next_body s ≤ end_place (appended s (pool_of body))
next_stands s body =
    let more : sum_by hob_len (s.hobs ++ pool_of body ∷ []) ≡ sum_by hob_len s.hobs + hob_len (pool_of body) = sum_by_push hob_len s.hobs (pool_of body) in
    omega (arith, more)

stands_where : {A : Type 0} (full : Bool) (place : A → ℕ) (s : StoreState) (made : A) (body : Body) → place made ≡ next_body s
    → Stands place s (cond full (Err F.Full) (Ok (made, appended s (pool_of body))))
stands_where true place s made body e = tt
stands_where false place s made body e = (subst (λ n. n ≤ end_place (appended s (pool_of body))) (sym e) (next_stands s body), refl)

abbrev made_at : StoreState → ℕ → Pool
made_at s size = record { offset = next_body s; size = size }

pool_where : (over full : Bool) (s : StoreState) (size : ℕ) (body : Body)
    → Stands (λ made. made.offset) s (cond over (Err F.Full) (cond full (Err F.Full) (Ok (made_at s size, appended s (pool_of body)))))
pool_where true full s size body = tt
pool_where false full s size body = stands_where full (λ made. made.offset) s (made_at s size) body refl

pub pool_stands : (s : StoreState) (size : ℕ) → Stands (λ made. made.offset) s (pool s size)
pool_stands s size = pool_where (nat_lt most_pool size) (nat_lt (free s) (rounded size + header_len)) s size (Bytes (replicate (rounded size) 0))

desc_where : (s : StoreState) (kind : DescKind) (number : ℕ) (guid : Option (Guid × Option ℕ)) → Stands (λ made. made.offset) s (desc_of s kind number guid)
desc_where s kind number None = tt
desc_where s kind number (Some (guid, stands)) =
    stands_where (nat_lt (free s) (descriptor_len stands + header_len)) (λ made. made.offset) s (record { offset = next_body s }) (Descriptor (record { kind = kind; guid = guid; stands = stands; number = number })) refl

pub desc_stands : (s : StoreState) (kind : DescKind) (guid : GuidFrom) (number : ℕ) → Stands (λ made. made.offset) s (desc s kind guid number)
desc_stands s kind guid number = desc_where s kind number (guid_from s guid)
