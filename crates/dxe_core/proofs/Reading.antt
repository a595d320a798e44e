-- What a loop has read of interfaces.
use Rattle.std.proofs.Common.{◌≡◌, ℕ, ◌+◌, ◌<◌, ◌≤◌, ◌==◌, Bool, true, false, List, [], get_or, subst, refl, arith}
use Rattle.std.proofs.lemmas.Bool.Decides.{nat_tests}
use Rattle.pi_base.specs.{declared.guid.Guid.Guid, Guids.same_guid}
use Rattle.store_model.specs.declared.interface.Interface.{Interface}

-- what stands past the end
abbrev pub blank : Interface
blank = record { handle = 0; guid = record { 0 = [] }; value = 0 }

abbrev Fails : List Interface → Guid → ℕ → Type 0
Fails is guid k = same_guid (get_or is k blank).guid guid ≡ false

by_place : (is : List Interface) (guid : Guid) (k at : ℕ) (b : Bool) → (k == at) ≡ b → k < at + 1 → (k < at → Fails is guid k) → Fails is guid at → Fails is guid k
by_place is guid k at true e to before here = let same : at ≡ k = grind (arith, nat_tests) in subst (Fails is guid) same here
by_place is guid k at false e to before here = let less : k < at = grind (arith, nat_tests, to) in before less

pub one_more : (is : List Interface) (guid : Guid) (begin at : ℕ) → ((k : ℕ) → begin ≤ k → k < at → Fails is guid k) → Fails is guid at → (k : ℕ) → begin ≤ k → k < at + 1 → Fails is guid k
one_more is guid begin at before here k from to = by_place is guid k at (k == at) refl to (before k from) here
