-- The last of a list.
use Rattle.std.proofs.Common.{◌≡◌, ◌≤◌, ◌-◌, suc, length, get_or, arith, List, [], ◌∷◌, ◌++◌, Option, Some, None, refl, sym, ap, ◌∙◌}
use Rattle.std.proofs.lemmas.Option.{same_Some}
use Rattle.volume_text.specs.Open.{last_of, with_first}

pub last_push : {A : Type 0} (xs : List A) (x : A) → last_of (xs ++ x ∷ []) ≡ Some (xs, x)
last_push [] x = refl
last_push (y ∷ ys) x = ap (with_first y) (last_push ys x)

with_first_some : {A : Type 0} (y : A) (o : Option (List A × A)) → with_first y o ≡ None → ⊥
with_first_some y None e = absurd cc
with_first_some y (Some parts) e = absurd cc

pub last_none : {A : Type 0} (xs : List A) → last_of xs ≡ None → xs ≡ []
last_none [] e = refl
last_none (y ∷ ys) e = absurd (with_first_some y (last_of ys) e)

last_with : {A : Type 0} (y : A) (ys : List A) (o : Option (List A × A)) → last_of ys ≡ o → ((others : List A × A) → last_of ys ≡ Some others → ys ≡ others.0 ++ others.1 ∷ [])
    → (parts : List A × A) → with_first y o ≡ Some parts → y ∷ ys ≡ parts.0 ++ parts.1 ∷ []
last_with y ys None is parted parts e = ap (λ l. y ∷ l) (last_none ys is) ∙ ap (λ p. p.0 ++ p.1 ∷ []) (same_Some ([], y) parts e)
last_with y ys (Some others) is parted parts e = ap (λ xs. y ∷ xs) (parted others is) ∙ ap (λ p. p.0 ++ p.1 ∷ []) (same_Some (y ∷ others.0, others.1) parts e)

-- a list with a last one is the others and it
pub last_is : {A : Type 0} (xs : List A) (parts : List A × A) → last_of xs ≡ Some parts → xs ≡ parts.0 ++ parts.1 ∷ []
last_is [] parts e = absurd cc
last_is (y ∷ ys) parts e = last_with y ys (last_of ys) refl (last_is ys) parts e

alone : {A : Type 0} (y x : A) → y ≡ x → last_of (y ∷ []) ≡ Some ([], x)
alone y x is = rw is refl

-- the last of a list, by its place
pub last_parts : {A : Type 0} (xs : List A) (x : A) → 1 ≤ length xs → x ≡ get_or xs (length xs - 1) x → (front : List A) × (last_of xs ≡ Some (front, x))
last_parts {A} [] x some is = absurd (omega arith)
last_parts {A} (y ∷ []) x some is = ([], alone y x (sym is))
last_parts {A} (y ∷ (z ∷ ys)) x some is =
    let place : suc (length (z ∷ ys)) - 1 ≡ suc (length (z ∷ ys) - 1) = omega arith in
    let more = last_parts (z ∷ ys) x (omega arith) (rw place at is) in
    let found : Option (List A × A) = Some (more.0, x) in
    (y ∷ more.0, ap (with_first y) {y = found} more.1)
