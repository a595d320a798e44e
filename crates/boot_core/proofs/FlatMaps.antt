-- Lists that are made of pieces.
use Rattle.std.proofs.Common.{◌≡◌, ℕ, Bool, true, false, cond, List, [], ◌∷◌, ◌++◌, refl, ap, ◌∙◌, flat_map, map, filter}
use Rattle.std.proofs.lemmas.Grind.{flat_map-append}

pub flat_of_flat : {A B : Type 0} (f : B → List ℕ) (g : A → List B) (xs : List A) → flat_map f (flat_map g xs) ≡ flat_map (λ x. flat_map f (g x)) xs
flat_of_flat f g [] = refl
flat_of_flat f g (x ∷ xs) = flat_map-append f (g x) (flat_map g xs) ∙ ap (λ t. flat_map f (g x) ++ t) (flat_of_flat f g xs)

pub flat_of_map : {A B : Type 0} (f : B → List ℕ) (g : A → B) (xs : List A) → flat_map f (map g xs) ≡ flat_map (λ x. f (g x)) xs
flat_of_map f g [] = refl
flat_of_map f g (x ∷ xs) = ap (λ t. f (g x) ++ t) (flat_of_map f g xs)

-- the pieces of those that pass a test
pub flat_of_filter : {A : Type 0} (f : A → List ℕ) (p : A → Bool) (xs : List A) → flat_map f (filter p xs) ≡ flat_map (λ x. cond (p x) (f x) []) xs
flat_of_filter f p [] = refl
flat_of_filter {A = A} f p (x ∷ xs) = one (p x) x (filter p xs) (flat_map (λ x. cond (p x) (f x) []) xs) (flat_of_filter f p xs)
  where
    one : (b : Bool) (x : A) (rest : List A) (text : List ℕ) → flat_map f rest ≡ text → flat_map f (cond b (x ∷ rest) rest) ≡ cond b (f x) [] ++ text
    one true x rest text e = ap (λ t. f x ++ t) e
    one false x rest text e = e

pub flat_same : {A : Type 0} (f g : A → List ℕ) (xs : List A) → ((x : A) → f x ≡ g x) → flat_map f xs ≡ flat_map g xs
flat_same f g [] e = refl
flat_same f g (x ∷ xs) e = ap (λ t. t ++ flat_map f xs) (e x) ∙ ap (λ t. g x ++ t) (flat_same f g xs e)
