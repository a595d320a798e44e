-- GUIDs, each once, with one more.
use Rattle.std.proofs.Common.{◌≡◌, Bool, true, false, ◌||◌, cond, List, [], ◌∷◌, ◌++◌, refl, ap, ◌∙◌, filter, not}
use Rattle.std.proofs.lemmas.List.Folds.{list_any-append}
use Rattle.pi_base.specs.{declared.guid.Guid.Guid, Guids.same_guid, Lists.firsts}
use Rattle.boot_laws.specs.ChangedGuids.{is_among}

filter_more : (test : Guid → Bool) (xs : List Guid) (x : Guid) → filter test (xs ++ x ∷ []) ≡ cond (test x) (filter test xs ++ x ∷ []) (filter test xs)
filter_more test [] x = refl
filter_more test (y ∷ xs) x = ap (λ ys. cond (test y) (y ∷ ys) ys) (filter_more test xs x) ∙ by (test y) (test x)
  where
    by : (a b : Bool) → cond a (y ∷ cond b (filter test xs ++ x ∷ []) (filter test xs)) (cond b (filter test xs ++ x ∷ []) (filter test xs))
        ≡ cond b (cond a (y ∷ filter test xs) (filter test xs) ++ x ∷ []) (cond a (y ∷ filter test xs) (filter test xs))
    by true true = refl
    by true false = refl
    by false true = refl
    by false false = refl

-- one that is among them adds nothing, and another comes at the end
pub firsts_more : (xs : List Guid) (x : Guid) → firsts same_guid (xs ++ x ∷ []) ≡ cond (is_among x xs) (firsts same_guid xs) (firsts same_guid xs ++ x ∷ [])
firsts_more [] x = refl
firsts_more (a ∷ xs) x =
    ap (λ ys. a ∷ filter (λ b. not (same_guid a b)) ys) (firsts_more xs x) ∙ by (same_guid a x) (is_among x xs) refl
  where
    by : (s w : Bool) → same_guid a x ≡ s → a ∷ filter (λ b. not (same_guid a b)) (cond w (firsts same_guid xs) (firsts same_guid xs ++ x ∷ []))
        ≡ cond (s || w) (a ∷ filter (λ b. not (same_guid a b)) (firsts same_guid xs)) (a ∷ filter (λ b. not (same_guid a b)) (firsts same_guid xs) ++ x ∷ [])
    by true true e = refl
    by false true e = refl
    by true false e = ap (λ ys. a ∷ ys) (filter_more (λ b. not (same_guid a b)) (firsts same_guid xs) x
        ∙ ap (λ t. cond (not t) (filter (λ b. not (same_guid a b)) (firsts same_guid xs) ++ x ∷ []) (filter (λ b. not (same_guid a b)) (firsts same_guid xs))) e)
    by false false e = ap (λ ys. a ∷ ys) (filter_more (λ b. not (same_guid a b)) (firsts same_guid xs) x
        ∙ ap (λ t. cond (not t) (filter (λ b. not (same_guid a b)) (firsts same_guid xs) ++ x ∷ []) (filter (λ b. not (same_guid a b)) (firsts same_guid xs))) e)

pub among_append : (xs ys : List Guid) (guid : Guid) → is_among guid (xs ++ ys) ≡ (is_among guid xs || is_among guid ys)
among_append xs ys guid = list_any-append (λ other. same_guid other guid) xs ys
