-- A list from its front on: what was made of those so far, and of those that are left, is the whole.
use Rattle.std.proofs.Common.{◌≡◌, ◌≤◌, ◌<◌, ◌-◌, arith, List, [], ◌∷◌, ◌++◌, flat_map, length, map, get_or, refl, sym, ap, ◌∙◌, append_assoc, drop, take, append-nil}
use Rattle.std.proofs.Math.Seq.{take-length}

-- the first, and those that are left
pub left_after : {A : Type 0} (xs : List A) (d : A) → 1 ≤ length xs → (get_or xs 0 d ∷ []) ++ take (length xs - 1) (drop 1 xs) ≡ xs
left_after [] d some = absurd (omega (arith, some))
left_after (x ∷ xs) d some =
    let many : length (x ∷ xs) - 1 ≡ length xs = omega arith in
    ap (λ n. x ∷ take n xs) many ∙ ap (λ ys. x ∷ ys) (take-length xs)

-- none is left
none_left : {A : Type 0} (xs : List A) → length xs < 1 → xs ≡ []
none_left [] few = refl
none_left (x ∷ xs) few = absurd (omega (arith, few))

-- one more is mapped, and all are
pub map_on : {A B : Type 0} (f : A → B) (xs : List A) (d : A) (done : List B) (one : B) (new all : List B) → 1 ≤ length xs → new ≡ done ++ one ∷ [] → one ≡ f (get_or xs 0 d) → done ++ map f xs ≡ all
    → new ++ map f (take (length xs - 1) (drop 1 xs)) ≡ all
map_on f xs d done one new all some is made whole =
    ap (λ ys. ys ++ map f (take (length xs - 1) (drop 1 xs))) (is ∙ ap (λ y. done ++ y ∷ []) made)
    ∙ append_assoc done (f (get_or xs 0 d) ∷ []) (map f (take (length xs - 1) (drop 1 xs))) ∙ ap (λ ys. done ++ map f ys) (left_after xs d some) ∙ whole

pub map_whole : {A B : Type 0} (f : A → B) (xs : List A) (done all : List B) → length xs < 1 → done ++ map f xs ≡ all → done ≡ all
map_whole f xs done all few whole = sym (append-nil done) ∙ ap (λ ys. done ++ map f ys) (sym (none_left xs few)) ∙ whole

-- the same where one makes several, or none
pub flat_on : {A B : Type 0} (f : A → List B) (xs : List A) (d : A) (done more new all : List B) → 1 ≤ length xs → new ≡ done ++ more → more ≡ f (get_or xs 0 d) → done ++ flat_map f xs ≡ all
    → new ++ flat_map f (take (length xs - 1) (drop 1 xs)) ≡ all
flat_on f xs d done more new all some is made whole =
    ap (λ ys. ys ++ flat_map f (take (length xs - 1) (drop 1 xs))) (is ∙ ap (λ ys. done ++ ys) made)
    ∙ append_assoc done (f (get_or xs 0 d)) (flat_map f (take (length xs - 1) (drop 1 xs))) ∙ ap (λ ys. done ++ flat_map f ys) (left_after xs d some) ∙ whole
