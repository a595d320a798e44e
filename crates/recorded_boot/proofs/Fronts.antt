-- The starts of lists that are joined, and two fronts of one list.
use Rattle.std.proofs.Common.{◌≡◌, List, [], ◌∷◌, ◌++◌, Some, refl, sym, ap, ◌∙◌, append_assoc, option_to_list}
use Rattle.std.proofs.lemmas.List.{append_cancel_left}
use Rattle.boot_model.specs.declared.line.Line.{Line}
use Rattle.recorded_boot.specs.declared.order.line.Start.{Start}
use Rattle.recorded_boot.specs.Starts.{ComeFirst, start_of, starts}

pub starts-append : (xs ys : List Line) → starts (xs ++ ys) ≡ starts xs ++ starts ys
starts-append [] ys = refl
starts-append (x ∷ xs) ys = ap (λ t. option_to_list (start_of x) ++ t) (starts-append xs ys) ∙ sym (append_assoc (option_to_list (start_of x)) (starts xs) (starts ys))

-- behind lines comes a start
pub starts_then : (xs ys : List Line) (line : Line) (start : Start) → start_of line ≡ Some start → starts (xs ++ line ∷ ys) ≡ starts xs ++ start ∷ starts ys
starts_then xs ys line start is = starts-append xs (line ∷ ys) ∙ ap (λ o. starts xs ++ (option_to_list o ++ starts ys)) is

pub same_next : {A : Type 0} (xs : List A) (s t : A) (r q : List A) → xs ++ s ∷ r ≡ xs ++ t ∷ q → s ≡ t
same_next [] s t r q e = cc
same_next (x ∷ xs) s t r q e = let rest : xs ++ s ∷ r ≡ xs ++ t ∷ q = cc in same_next xs s t r q rest

-- what comes next in two fronts of one list is the same
pub next_of_fronts : (before one other all : List Start) (s t : Start) (r q : List Start) → one ≡ before ++ s ∷ r → other ≡ before ++ t ∷ q → ComeFirst one all → ComeFirst other all → s ≡ t
next_of_fronts before one other all s t r q is was first second =
    let a : all ≡ before ++ s ∷ (r ++ first.0) = first.1 ∙ ap (λ x. x ++ first.0) is ∙ append_assoc before (s ∷ r) first.0 in
    let b : all ≡ before ++ t ∷ (q ++ second.0) = second.1 ∙ ap (λ x. x ++ second.0) was ∙ append_assoc before (t ∷ q) second.0 in
    same_next before s t (r ++ first.0) (q ++ second.0) (sym a ∙ b)

-- a front of a front is one
pub first_of_first : (one other all : List Start) → ComeFirst one other → ComeFirst other all → ComeFirst one all
first_of_first one other all f g = (f.0 ++ g.0, g.1 ∙ ap (λ x. x ++ g.0) f.1 ∙ append_assoc one f.0 g.0)

-- what is behind the same lines in two fronts of one list
pub behind_front : (before one other all : List Start) → ComeFirst (before ++ one) all → ComeFirst (before ++ other) all → (rest : List Start) × ComeFirst one rest × ComeFirst other rest
behind_front before one other all first second =
    let a : all ≡ before ++ (one ++ first.0) = first.1 ∙ append_assoc before one first.0 in
    let b : all ≡ before ++ (other ++ second.0) = second.1 ∙ append_assoc before other second.0 in
    (one ++ first.0, (first.0, refl), (second.0, append_cancel_left before (one ++ first.0) (other ++ second.0) (sym a ∙ b)))
