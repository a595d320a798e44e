-- Searching the processors in order.
use Rattle.std.proofs.Common.{◌≡◌, ℕ, ◌+◌, ◌<◌, Bool, true, false, not, ◌&&◌, ◌||◌, cond, List, [], ◌∷◌, ◌++◌, sym, refl, ap, subst, ◌∙◌, arith, filter}
use Rattle.std.proofs.lemmas.List.Folds.{list_any-append, list_any_at}
use Rattle.std.specs.List.{list_any}
use Rattle.pi_base.specs.Lists.{numbers}
use Rattle.mp_core.specs.Past.{is_empty}
use Rattle.mp_core.proofs.Standing.{length-numbers, numbers_at, numbers_push}

pub empty_filter : (f : ℕ → Bool) (xs : List ℕ) → not (is_empty (filter f xs)) ≡ list_any f xs
empty_filter f [] = refl
empty_filter f (x ∷ rest) = elim (f x) as (λ b. not (is_empty (cond b (x ∷ filter f rest) (filter f rest))) ≡ (b || list_any f rest)) [ true ↦ refl | false ↦ empty_filter f rest ]

pub any_filter : (f g : ℕ → Bool) (xs : List ℕ) → list_any g (filter f xs) ≡ list_any (λ p. f p && g p) xs
any_filter f g [] = refl
any_filter f g (x ∷ rest) =
    elim (f x) as (λ b. list_any g (cond b (x ∷ filter f rest) (filter f rest)) ≡ ((b && g x) || list_any (λ p. f p && g p) rest))
    [ true ↦ ap (λ b. g x || b) (any_filter f g rest) | false ↦ any_filter f g rest ]

-- none up to a processor, nor that one
pub any_more : (f : ℕ → Bool) (p : ℕ) → list_any f (numbers 0 p) ≡ false → f p ≡ false → list_any f (numbers 0 (p + 1)) ≡ false
any_more f p none here =
    let at : f (0 + p) ≡ false = ap f (omega arith) ∙ here in
    ap (list_any f) (numbers_push 0 p) ∙ list_any-append f (numbers 0 p) ((0 + p) ∷ []) ∙ (λ i. none i || (at i || false))

pub any_here : (f : ℕ → Bool) (n p : ℕ) → p < n → f p ≡ true → list_any f (numbers 0 n) ≡ true
any_here f n p lt pass =
    list_any_at f (numbers 0 n) p 0 (subst (λ m. p < m) (sym (length-numbers 0 n)) lt) (ap f (numbers_at 0 n p 0 lt ∙ omega arith) ∙ pass)

pub filter-append : (f : ℕ → Bool) (xs ys : List ℕ) → filter f (xs ++ ys) ≡ filter f xs ++ filter f ys
filter-append f [] ys = refl
filter-append f (x ∷ rest) ys =
    elim (f x) as (λ b. cond b (x ∷ filter f (rest ++ ys)) (filter f (rest ++ ys)) ≡ cond b (x ∷ filter f rest) (filter f rest) ++ filter f ys)
    [ true ↦ ap (λ zs. x ∷ zs) (filter-append f rest ys) | false ↦ filter-append f rest ys ]

pub filter_push : (f : ℕ → Bool) (p : ℕ) → filter f (numbers 0 (p + 1)) ≡ filter f (numbers 0 p) ++ cond (f p) (p ∷ []) []
filter_push f p =
    ap (filter f) (numbers_push 0 p) ∙ filter-append f (numbers 0 p) ((0 + p) ∷ []) ∙ ap (λ n. filter f (numbers 0 p) ++ cond (f n) (n ∷ []) []) (omega arith)
