-- The volumes of a family that are new, put at the end one after the other, are the newcomers.
use Rattle.std.proofs.Common.{◌≡◌, ℕ, ◌==◌, Bool, true, false, not, cond, List, [], ◌∷◌, ◌++◌, refl, sym, ap, ◌∙◌, append_assoc, append-nil, filter}
use Rattle.mod_catalog.specs.Parts.{has_number}
use Rattle.boot_model.specs.Licence.{AllDiffer}
use Rattle.phase_parts.specs.Known.{with_new}
use Rattle.boot_model.proofs.Distinct.{neither}
use Rattle.phase_parts.proofs.ListFacts.{has_pushed, turned}

-- the numbers that are new stay so beside one that is none of them
new_beside : (known : List ℕ) (n : ℕ) (xs : List ℕ) → has_number xs n ≡ false
    → filter (λ x. not (has_number (known ++ n ∷ []) x)) xs ≡ filter (λ x. not (has_number known x)) xs
new_beside known n [] h = refl
new_beside known n (x ∷ xs) h =
    let parts = neither (x == n) (has_number xs n) h in
    let same = has_pushed known n x (turned x n parts.0) in
    let rest = new_beside known n xs parts.1 in
    ap (λ b. cond (not b) (x ∷ filter (λ y. not (has_number (known ++ n ∷ []) y)) xs) (filter (λ y. not (has_number (known ++ n ∷ []) y)) xs)) same
    ∙ ap (λ ys. cond (not (has_number known x)) (x ∷ ys) ys) rest

by_first : (known ns news : List ℕ) (n : ℕ) (b : Bool) → with_new (known ++ n ∷ []) ns ≡ (known ++ n ∷ []) ++ news → with_new known ns ≡ known ++ news
    → with_new (cond b (known ++ n ∷ []) known) ns ≡ known ++ cond b (n ∷ news) news
by_first known ns news n true with_it without = with_it ∙ append_assoc known (n ∷ []) news
by_first known ns news n false with_it without = without

pub all_new : (known numbers : List ℕ) → AllDiffer numbers → with_new known numbers ≡ known ++ filter (λ x. not (has_number known x)) numbers
all_new known [] d = sym (append-nil known)
all_new known (n ∷ ns) d =
    let with_it = all_new (known ++ n ∷ []) ns d.1 ∙ ap (λ xs. (known ++ n ∷ []) ++ xs) (new_beside known n ns d.0) in
    by_first known ns (filter (λ x. not (has_number known x)) ns) n (not (has_number known n)) with_it (all_new known ns d.1)

-- a family of which the first is new
pub new_family : (known family added : List ℕ) (known_first : Bool) → known_first ≡ false → AllDiffer family → added ≡ with_new known family
    → added ≡ known ++ cond known_first [] (filter (λ x. not (has_number known x)) family)
new_family known family added true new d e = cc
new_family known family added false new d e = e ∙ all_new known family d
