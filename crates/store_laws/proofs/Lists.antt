-- Words on lists: a fact of each item, and of each pair in order.
use Rattle.std.proofs.Common.{◌≡◌, ℕ, zero, suc, ◌<◌, List, [], ◌∷◌, ◌++◌, length, drop, arith, ap, refl, subst, AllPairs, slice_index_or, map}
use Rattle.pi_base.specs.Lists.{Each, Ordered}
pub use Rattle.pi_base.proofs.ListFacts.{each_more, each_append}

pub each_left : {A : Type 0} (P : A → Type 0) (xs ys : List A) → Each P (xs ++ ys) → Each P xs
each_left P [] ys h = tt
each_left P (x ∷ xs) ys h = (h.0, each_left P xs ys h.1)

pub each_right : {A : Type 0} (P : A → Type 0) (xs ys : List A) → Each P (xs ++ ys) → Each P ys
each_right P [] ys h = h
each_right P (x ∷ xs) ys h = each_right P xs ys h.1

pub each_of_map : {A B : Type 0} (f : A → B) (P : B → Type 0) (xs : List A) → Each P (map f xs) → Each (λ x. P (f x)) xs
each_of_map f P [] h = tt
each_of_map f P (x ∷ xs) h = (h.0, each_of_map f P xs h.1)

pub each_to_map : {A B : Type 0} (f : A → B) (P : B → Type 0) (xs : List A) → Each (λ x. P (f x)) xs → Each P (map f xs)
each_to_map f P [] h = tt
each_to_map f P (x ∷ xs) h = (h.0, each_to_map f P xs h.1)

-- the item that stands behind so many others
pub each_behind : {A : Type 0} (P : A → Type 0) (xs rest : List A) (i : ℕ) (x : A) → Each P xs → drop i xs ≡ x ∷ rest → P x
each_behind P [] rest zero x h e = cc
each_behind P [] rest (suc i) x h e = cc
each_behind P (y ∷ ys) rest zero x h e = let same : y ≡ x = cc in subst P same h.0
each_behind P (y ∷ ys) rest (suc i) x h e = each_behind P ys rest i x h.1 e

-- a fact of all by their places
all_from : {A : Type 0} (P : A → Type 0) (xs : List A) → ((i : ℕ) (d : A) → i < length xs → P (slice_index_or xs i d)) → Each P xs
all_from P [] h = tt
all_from P (x ∷ xs) h = (h 0 x (omega arith), all_from P xs (λ i d le. h (suc i) d (omega (arith, le))))

pub ordered_of : {A : Type 0} (R : A → A → Type 0) (xs : List A) → AllPairs R xs → Ordered R xs
ordered_of R [] h = tt
ordered_of R (x ∷ xs) h = (all_from (R x) xs (λ i d le. h 0 (suc i) d (omega arith) (omega (arith, le))), ordered_of R xs (λ i j d below le. h (suc i) (suc j) d (omega (arith, below)) (omega (arith, le))))

pub ordered_of_map : {A B : Type 0} (f : A → B) (R : B → B → Type 0) (xs : List A) → Ordered R (map f xs) → Ordered (λ a b. R (f a) (f b)) xs
ordered_of_map f R [] h = tt
ordered_of_map f R (x ∷ xs) h = (each_of_map f (R (f x)) xs h.0, ordered_of_map f R xs h.1)

-- of two lists, one behind the other
pub ordered_left : {A : Type 0} (R : A → A → Type 0) (xs ys : List A) → Ordered R (xs ++ ys) → Ordered R xs
ordered_left R [] ys h = tt
ordered_left R (x ∷ xs) ys h = (each_left (R x) xs ys h.0, ordered_left R xs ys h.1)

pub ordered_right : {A : Type 0} (R : A → A → Type 0) (xs ys : List A) → Ordered R (xs ++ ys) → Ordered R ys
ordered_right R [] ys h = h
ordered_right R (x ∷ xs) ys h = ordered_right R xs ys h.1

pub ordered_across : {A : Type 0} (R : A → A → Type 0) (xs ys : List A) → Ordered R (xs ++ ys) → Each (λ x. Each (R x) ys) xs
ordered_across R [] ys h = tt
ordered_across R (x ∷ xs) ys h = (each_right (R x) xs ys h.0, ordered_across R xs ys h.1)

pub map_append : {A B : Type 0} (f : A → B) (xs ys : List A) → map f (xs ++ ys) ≡ map f xs ++ map f ys
map_append f [] ys = refl
map_append f (x ∷ xs) ys = ap (λ rest. f x ∷ rest) (map_append f xs ys)

pub map_map : {A B C : Type 0} (g : B → C) (f : A → B) (xs : List A) → map g (map f xs) ≡ map (λ x. g (f x)) xs
map_map g f [] = refl
map_map g f (x ∷ xs) = ap (λ rest. g (f x) ∷ rest) (map_map g f xs)
