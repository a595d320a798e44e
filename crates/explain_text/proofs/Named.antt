-- The GUIDs that actions name, with one more.
use Rattle.std.proofs.Common.{◌≡◌, ℕ, ◌+◌, ◌<◌, length, take, get_or, Bool, true, false, cond, not, ◌||◌, List, [], ◌∷◌, ◌++◌, filter, flat_map, Some, is_some, refl, sym, ap, ◌∙◌, append_assoc, option_to_list, append-nil}
use Rattle.std.specs.List.{list_any}
use Rattle.std.proofs.{lemmas.Cmp.nat_list_eq_equiv, lemmas.List.take_more, lemmas.List.Elements.filter-append}
use Rattle.std.proofs.{lemmas.List.Folds.list_any-append, lemmas.Grind.flat_map-append}
use Rattle.pi_base.specs.{declared.guid.Guid.Guid, Guids.same_guid, Lists.firsts, GuidMap.IsPut, GuidMap.value_of}
use Rattle.act_code.specs.declared.action.Action.{Action}
use Rattle.explain_text.specs.Gives.{AreMet, named_by, named_in_all, named_in_block, names}
use Rattle.explain_text.specs.declared.catalog.gives.Met.{Met}

-- the items that differ from one are asked for another
any_other : (a guid : Guid) (ys : List Guid) → same_guid a guid ≡ false → list_any (same_guid guid) (filter (λ b. not (same_guid a b)) ys) ≡ list_any (same_guid guid) ys
any_other a guid [] differ = refl
any_other a guid (b ∷ ys) differ = by (same_guid a b) refl (any_other a guid ys differ)
  where
    by : (t : Bool) → same_guid a b ≡ t → list_any (same_guid guid) (filter (λ b. not (same_guid a b)) ys) ≡ list_any (same_guid guid) ys
        → list_any (same_guid guid) (cond (not t) (b ∷ filter (λ b. not (same_guid a b)) ys) (filter (λ b. not (same_guid a b)) ys)) ≡ same_guid guid b || list_any (same_guid guid) ys
    by false e rest = ap (λ t. same_guid guid b || t) rest
    by true e rest =
        let apart : same_guid guid b ≡ false = nat_list_eq_equiv.symm guid.0 b.0 ∙ sym (nat_list_eq_equiv.congr a.0 b.0 guid.0 e) ∙ differ in
        rest ∙ ap (λ t. t || list_any (same_guid guid) ys) (sym apart)

-- the first of each kind are asked as all are
pub any_of_firsts : (guid : Guid) (xs : List Guid) → list_any (same_guid guid) (firsts same_guid xs) ≡ list_any (same_guid guid) xs
any_of_firsts guid [] = refl
any_of_firsts guid (a ∷ xs) = by (same_guid a guid) refl (any_of_firsts guid xs)
  where
    turned : same_guid guid a ≡ same_guid a guid
    turned = nat_list_eq_equiv.symm guid.0 a.0

    by : (s : Bool) → same_guid a guid ≡ s → list_any (same_guid guid) (firsts same_guid xs) ≡ list_any (same_guid guid) xs
        → same_guid guid a || list_any (same_guid guid) (filter (λ b. not (same_guid a b)) (firsts same_guid xs)) ≡ same_guid guid a || list_any (same_guid guid) xs
    by true e rest =
        ap (λ t. t || list_any (same_guid guid) (filter (λ b. not (same_guid a b)) (firsts same_guid xs))) (turned ∙ e)
        ∙ ap (λ t. t || list_any (same_guid guid) xs) (sym (turned ∙ e))
    by false e rest = ap (λ t. same_guid guid a || t) (any_other a guid (firsts same_guid xs) e ∙ rest)

-- the first of each kind, with one item more
pub firsts_push : (xs : List Guid) (guid : Guid) → firsts same_guid (xs ++ guid ∷ []) ≡ firsts same_guid xs ++ cond (list_any (same_guid guid) (firsts same_guid xs)) [] (guid ∷ [])
firsts_push [] guid = refl
firsts_push (a ∷ xs) guid =
    by (same_guid a guid) refl (ap others (firsts_push xs guid) ∙ filter-append (λ b. not (same_guid a b)) rest (cond (list_any (same_guid guid) rest) [] (guid ∷ [])))
  where
    rest : List Guid
    rest = firsts same_guid xs

    others : List Guid → List Guid
    others guids = filter (λ b. not (same_guid a b)) guids

    turned : same_guid guid a ≡ same_guid a guid
    turned = nat_list_eq_equiv.symm guid.0 a.0

    alone : (s t : Bool) → same_guid a guid ≡ s → others (cond t [] (guid ∷ [])) ≡ cond (s || t) [] (guid ∷ [])
    alone s true e = by_s s
      where
        by_s : (s : Bool) → [] ≡ cond (s || true) [] (guid ∷ [])
        by_s true = refl
        by_s false = refl
    alone true false e = ap (λ t. cond (not t) (guid ∷ []) []) e
    alone false false e = ap (λ t. cond (not t) (guid ∷ []) []) e

    by : (s : Bool) → same_guid a guid ≡ s → others (firsts same_guid (xs ++ guid ∷ [])) ≡ others rest ++ others (cond (list_any (same_guid guid) rest) [] (guid ∷ []))
        → a ∷ others (firsts same_guid (xs ++ guid ∷ [])) ≡ a ∷ (others rest ++ cond (same_guid guid a || list_any (same_guid guid) (others rest)) [] (guid ∷ []))
    by true e grown =
        ap (λ guids. a ∷ guids) (grown ∙ ap (λ more. others rest ++ more) (alone true (list_any (same_guid guid) rest) e))
        ∙ ap (λ t. a ∷ (others rest ++ cond (t || list_any (same_guid guid) (others rest)) [] (guid ∷ []))) (sym (turned ∙ e))
    by false e grown =
        ap (λ guids. a ∷ guids) (grown ∙ ap (λ more. others rest ++ more) (alone false (list_any (same_guid guid) rest) e))
        ∙ ap (λ t. a ∷ (others rest ++ cond t [] (guid ∷ []))) (sym (any_other a guid rest e))
        ∙ ap (λ t. a ∷ (others rest ++ cond (t || list_any (same_guid guid) (others rest)) [] (guid ∷ []))) (sym (turned ∙ e))

-- a GUID that was met before
pub met_again : (guid : Guid) (met : Met) → is_some (value_of met.known guid) ≡ true → (before : List Guid) → AreMet before met → AreMet (before ++ guid ∷ []) met
met_again guid met is before are =
    let there : list_any (same_guid guid) (firsts same_guid before) ≡ true = ap (list_any (same_guid guid)) (sym are.once) ∙ sym (are.are_known guid) ∙ is in
    record {
      once = are.once ∙ sym (firsts_push before guid ∙ ap (λ t. firsts same_guid before ++ cond t [] (guid ∷ [])) there ∙ append-nil (firsts same_guid before));
      are_known = are.are_known;
    }

put_known : (guid other : Guid) (guids : List Guid) (old new : List (Guid × Bool)) → IsPut old guid true new → is_some (value_of old other) ≡ list_any (same_guid other) guids
    → is_some (value_of new other) ≡ list_any (same_guid other) (guids ++ guid ∷ [])
put_known guid other guids old new put before =
    ap is_some (put other) ∙ by (same_guid guid other) refl ∙ sym (list_any-append (same_guid other) guids (guid ∷ []))
  where
    turned : same_guid other guid ≡ same_guid guid other
    turned = nat_list_eq_equiv.symm other.0 guid.0

    or_true : (t : Bool) → true ≡ t || true
    or_true true = refl
    or_true false = refl

    or_false : (t : Bool) → t ≡ t || false
    or_false true = refl
    or_false false = refl

    by : (s : Bool) → same_guid guid other ≡ s → is_some (cond s (Some true) (value_of old other)) ≡ list_any (same_guid other) guids || (same_guid other guid || false)
    by true e = or_true (list_any (same_guid other) guids) ∙ ap (λ t. list_any (same_guid other) guids || (t || false)) (sym (turned ∙ e))
    by false e = before ∙ or_false (list_any (same_guid other) guids) ∙ ap (λ t. list_any (same_guid other) guids || (t || false)) (sym (turned ∙ e))

-- a GUID that is met for the first time
pub met_first : (guid : Guid) (old new : Met) → is_some (value_of old.known guid) ≡ false → IsPut old.known guid true new.known → new.guids ≡ old.guids ++ guid ∷ []
    → (before : List Guid) → AreMet before old → AreMet (before ++ guid ∷ []) new
met_first guid old new is put grown before are =
    let absent : list_any (same_guid guid) (firsts same_guid before) ≡ false = ap (list_any (same_guid guid)) (sym are.once) ∙ sym (are.are_known guid) ∙ is in
    record {
      once =
          grown ∙ ap (λ guids. guids ++ guid ∷ []) are.once
          ∙ sym (firsts_push before guid ∙ ap (λ t. firsts same_guid before ++ cond t [] (guid ∷ [])) absent);
      are_known = λ other. put_known guid other old.guids old.known new.known put (are.are_known other) ∙ ap (list_any (same_guid other)) (sym grown);
    }

-- whether GUIDs of lists are asked for one
any_flat : {A : Type 0} (test : Guid → Bool) (f : A → List Guid) (xs : List A) → list_any test (flat_map f xs) ≡ list_any (λ x. list_any test (f x)) xs
any_flat test f [] = refl
any_flat test f (x ∷ xs) = list_any-append test (f x) (flat_map f xs) ∙ ap (λ t. list_any test (f x) || t) (any_flat test f xs)

any_same : {A : Type 0} (p q : A → Bool) (xs : List A) → ((x : A) → p x ≡ q x) → list_any p xs ≡ list_any q xs
any_same p q [] same = refl
any_same p q (x ∷ xs) same = ap (λ t. t || list_any p xs) (same x) ∙ ap (λ t. q x || t) (any_same p q xs same)

pub named_by_some : (guid : Guid) (blocks : List (List Action)) → list_any (same_guid guid) (firsts same_guid (named_in_all blocks)) ≡ list_any (list_any (names guid)) blocks
named_by_some guid blocks =
    any_of_firsts guid (named_in_all blocks) ∙ any_flat (same_guid guid) named_in_block blocks
    ∙ any_same (λ actions. list_any (same_guid guid) (named_in_block actions)) (list_any (names guid)) blocks
    (λ actions. any_flat (same_guid guid) (λ action. option_to_list (named_by action)) actions)

-- the GUIDs of a list's items, with one item more
pub flat_next : {A : Type 0} (f : A → List Guid) (before : List Guid) (xs : List A) (i : ℕ) (d x : A) → i < length xs → x ≡ get_or xs i d
    → (before ++ flat_map f (take i xs)) ++ f x ≡ before ++ flat_map f (take (i + 1) xs)
flat_next f before xs i d x within is =
    append_assoc before (flat_map f (take i xs)) (f x)
    ∙ ap (λ t. before ++ t) (ap (λ y. flat_map f (take i xs) ++ f y) is ∙ sym (ap (flat_map f) (take_more xs i d within) ∙ flat_map-append f (take i xs) (get_or xs i d ∷ []) ∙ ap (λ t. flat_map f (take i xs) ++ t) (append-nil (f (get_or xs i d)))))

pub none_met : (met : Met) → met.guids ≡ [] → met.known ≡ [] → AreMet [] met
none_met met guids known = record {
  once = guids;
  are_known = λ guid. ap (λ (map : List (Guid × Bool)). is_some (value_of map guid)) known ∙ sym (ap (list_any (same_guid guid)) guids);
}
