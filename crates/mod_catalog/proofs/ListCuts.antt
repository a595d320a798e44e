-- Where two items stand in one list: at one place, or one of them behind the other.
use Rattle.std.proofs.Common.{◌≡◌, List, [], ◌∷◌, ◌++◌, refl, sym, ap, ◌∙◌}

abbrev pub head_or : {A : Type 0} → A → List A → A
head_or x [] = x
head_or x (y ∷ ys) = y

abbrev pub tail_of : {A : Type 0} → List A → List A
tail_of [] = []
tail_of (y ∷ ys) = ys

-- of an item behind `xs` and one behind `ys`
pub data Cut {A : Type 0} (xs : List A) (x : A) (ys : List A) (y : A) : Type 0 where
  here : xs ≡ ys → x ≡ y → Cut xs x ys y
  before : (middle : List A) → ys ≡ xs ++ x ∷ middle → Cut xs x ys y
  behind : (middle : List A) → xs ≡ ys ++ y ∷ middle → Cut xs x ys y

pub cut : {A : Type 0} (xs : List A) (x : A) (more : List A) (ys : List A) (y : A) (others : List A) → xs ++ x ∷ more ≡ ys ++ y ∷ others → Cut xs x ys y
cut [] x more [] y others e = here refl (ap (head_or x) e)
cut [] x more (b ∷ ys) y others e = before ys (ap (λ z. z ∷ ys) (sym (ap (head_or x) e)))
cut (a ∷ xs) x more [] y others e = behind xs (ap (λ z. z ∷ xs) (ap (head_or a) e))
cut {A = A} (a ∷ xs) x more (b ∷ ys) y others e = further a b (ap (head_or a) e) (cut xs x more ys y others (ap tail_of e))
  where
    further : (a b : A) → a ≡ b → Cut xs x ys y → Cut (a ∷ xs) x (b ∷ ys) y
    further a b same (here these is) = here (ap (λ z. z ∷ xs) same ∙ ap (λ zs. b ∷ zs) these) is
    further a b same (before middle these) = before middle (ap (λ z. z ∷ ys) (sym same) ∙ ap (λ zs. a ∷ zs) these)
    further a b same (behind middle these) = behind middle (ap (λ z. z ∷ xs) same ∙ ap (λ zs. b ∷ zs) these)
