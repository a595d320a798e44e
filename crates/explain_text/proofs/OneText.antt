-- Modules have one list of names.
use Rattle.std.proofs.Common.{◌≡◌, List, [], ◌∷◌, refl, ap, ◌∙◌}
use Rattle.pi_base.specs.Lists.{EachPair}

pub one_list : {A B : Type 0} (R : A → B → Type 0) → ((a : A) (x y : B) → R a x → R a y → x ≡ y) → (items : List A) (xs ys : List B) → EachPair R items xs → EachPair R items ys → xs ≡ ys
one_list R one [] [] [] p q = refl
one_list R one [] [] (y ∷ ys) p q = absurd q
one_list R one [] (x ∷ xs) ys p q = absurd p
one_list R one (a ∷ items) [] ys p q = absurd p
one_list R one (a ∷ items) (x ∷ xs) [] p q = absurd q
one_list R one (a ∷ items) (x ∷ xs) (y ∷ ys) p q = ap (λ z. z ∷ xs) (one a x y p.0 q.0) ∙ ap (λ zs. y ∷ zs) (one_list R one items xs ys p.1 q.1)
