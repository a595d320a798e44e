-- What is left behind the item that has a node, by its place.
use Rattle.std.proofs.Common.{◌≡◌, ℕ, zero, suc, ◌+◌, ◌<◌, true, List, [], ◌∷◌, length, drop, get_or, arith, refl, ◌==◌, map}
use Rattle.std.proofs.lemmas.Bool.Decides.{nat_tests}
use Rattle.store_model.specs.{declared.store_handle.EntryTold.EntryTold, Service.Reading.behind_node}

same : (a b : ℕ) → a ≡ b → (a == b) ≡ true
same a b e = grind (arith, nat_tests, e)

pub found : {A : Type 0} (f : A → EntryTold) (xs : List A) (i : ℕ) (d : A) (node : ℕ) → i < length xs → (f (get_or xs i d)).node ≡ node
    → drop (i + 1) (map f xs) ≡ behind_node node (map f (drop i xs))
found f [] i d node le e = absurd (omega (arith, le))
found f (x ∷ xs) zero d node le e = rw (same (f x).node node e) refl
found f (x ∷ xs) (suc i) d node le e = let next : suc i + 1 ≡ suc (i + 1) = omega arith in rw next (found f xs i d node (omega (arith, le)) e)
