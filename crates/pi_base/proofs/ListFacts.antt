-- What holds of each item of a list, of each with those behind it, and of two lists item by item.
use Rattle.std.proofs.Common.{suc, Bool, true, false, cond, List, [], ◌∷◌, ◌++◌, map, arith, All, filter, AllPairs}
use Rattle.pi_base.specs.Lists.{Each, EachPair, Ordered}

pub each_more : {A : Type 0} (P Q : A → Type 0) (xs : List A) → ((x : A) → P x → Q x) → Each P xs → Each Q xs
each_more P Q [] f e = tt
each_more P Q (x ∷ xs) f e = (f x e.0, each_more P Q xs f e.1)

pub each_append : {A : Type 0} (P : A → Type 0) (xs ys : List A) → Each P xs → Each P ys → Each P (xs ++ ys)
each_append P [] ys e f = f
each_append P (x ∷ xs) ys e f = (e.0, each_append P xs ys e.1 f)

pub each_both : {A : Type 0} (P Q : A → Type 0) (xs : List A) → Each P xs → Each Q xs → Each (λ x. P x × Q x) xs
each_both P Q [] e f = tt
each_both P Q (x ∷ xs) e f = ((e.0, f.0), each_both P Q xs e.1 f.1)

pub each_cross : {A B : Type 0} (P : A → Type 0) (Q : B → Type 0) (R : A → B → Type 0) (xs : List A) (ys : List B) → ((x : A) (y : B) → P x → Q y → R x y)
    → Each P xs → Each Q ys → Each (λ x. Each (R x) ys) xs
each_cross P Q R [] ys f e g = tt
each_cross P Q R (x ∷ xs) ys f e g = (each_more Q (R x) ys (λ y q. f x y e.0 q) g, each_cross P Q R xs ys f e.1 g)

each_kept : {A : Type 0} (P : A → Type 0) (b : Bool) (x : A) (xs : List A) → P x → Each P xs → Each P (cond b (x ∷ xs) xs)
each_kept P true x xs p e = (p, e)
each_kept P false x xs p e = e

pub each_filter : {A : Type 0} (P : A → Type 0) (test : A → Bool) (xs : List A) → Each P xs → Each P (filter test xs)
each_filter P test [] e = tt
each_filter P test (x ∷ xs) e = each_kept P (test x) x (filter test xs) e.0 (each_filter P test xs e.1)

ordered_kept : {A : Type 0} (R : A → A → Type 0) (b : Bool) (x : A) (xs : List A) → Each (R x) xs → Ordered R xs → Ordered R (cond b (x ∷ xs) xs)
ordered_kept R true x xs p e = (p, e)
ordered_kept R false x xs p e = e

pub ordered_filter : {A : Type 0} (R : A → A → Type 0) (test : A → Bool) (xs : List A) → Ordered R xs → Ordered R (filter test xs)
ordered_filter R test [] e = tt
ordered_filter R test (x ∷ xs) e = ordered_kept R (test x) x (filter test xs) (each_filter (R x) test xs e.0) (ordered_filter R test xs e.1)

pub ordered_append : {A : Type 0} (R : A → A → Type 0) (xs ys : List A) → Ordered R xs → Ordered R ys → Each (λ x. Each (R x) ys) xs → Ordered R (xs ++ ys)
ordered_append R [] ys e f g = f
ordered_append R (x ∷ xs) ys e f g = (each_append (R x) xs ys e.0 g.0, ordered_append R xs ys e.1 f g.1)

pub each_of_all : {A : Type 0} (P : A → Type 0) (xs : List A) → All P xs → Each P xs
each_of_all P [] a = tt
each_of_all P (x ∷ xs) a = (a 0 x (omega arith), each_of_all P xs (λ k d within. a (suc k) d (omega arith)))

pub ordered_of_pairs : {A : Type 0} (R : A → A → Type 0) (xs : List A) → AllPairs R xs → Ordered R xs
ordered_of_pairs R [] a = tt
ordered_of_pairs R (x ∷ xs) a =
    (each_of_all (R x) xs (λ k d within. a 0 (suc k) d (omega arith) (omega arith)), ordered_of_pairs R xs (λ i j d below within. a (suc i) (suc j) d (omega arith) (omega arith)))

pub each_of_map : {A B : Type 0} (P : B → Type 0) (f : A → B) (xs : List A) → Each P (map f xs) → Each (λ x. P (f x)) xs
each_of_map P f [] e = tt
each_of_map P f (x ∷ xs) e = (e.0, each_of_map P f xs e.1)

pub ordered_of_map : {A B : Type 0} (R : B → B → Type 0) (f : A → B) (xs : List A) → Ordered R (map f xs) → Ordered (λ a b. R (f a) (f b)) xs
ordered_of_map R f [] e = tt
ordered_of_map R f (x ∷ xs) e = (each_of_map (R (f x)) f xs e.0, ordered_of_map R f xs e.1)

pub right_each : {A B : Type 0} (R : A → B → Type 0) (P : B → Type 0) (xs : List A) (ys : List B) → ((x : A) (y : B) → R x y → P y) → EachPair R xs ys → Each P ys
right_each R P [] [] f e = tt
right_each R P [] (y ∷ ys) f e = absurd e
right_each R P (x ∷ xs) [] f e = absurd e
right_each R P (x ∷ xs) (y ∷ ys) f e = (f x y e.0, right_each R P xs ys f e.1)

beside : {A B : Type 0} (R : A → B → Type 0) (S : A → Type 0) (T : B → Type 0) (xs : List A) (ys : List B) → ((x : A) (y : B) → S x → R x y → T y)
    → EachPair R xs ys → Each S xs → Each T ys
beside R S T [] [] f e g = tt
beside R S T [] (y ∷ ys) f e g = absurd e
beside R S T (x ∷ xs) [] f e g = absurd e
beside R S T (x ∷ xs) (y ∷ ys) f e g = (f x y g.0 e.0, beside R S T xs ys f e.1 g.1)

pub right_ordered : {A B : Type 0} (R : A → B → Type 0) (S : A → A → Type 0) (T : B → B → Type 0) (xs : List A) (ys : List B)
    → ((a b : A) (x y : B) → S a b → R a x → R b y → T x y) → EachPair R xs ys → Ordered S xs → Ordered T ys
right_ordered R S T [] [] f e g = tt
right_ordered R S T [] (y ∷ ys) f e g = absurd e
right_ordered R S T (x ∷ xs) [] f e g = absurd e
right_ordered R S T (x ∷ xs) (y ∷ ys) f e g = (beside R (S x) (T y) xs ys (λ a z s r. f x a y z s e.0 r) e.1 g.0, right_ordered R S T xs ys f e.1 g.1)
