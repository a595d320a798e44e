-- Lists of ranges that grow, with a change.
use Rattle.std.proofs.Common.{◌≡◌, inl, inr, ℕ, ◌+◌, ◌-◌, ◌<◌, ◌≤◌, List, [], ◌∷◌, ◌++◌, length, take, drop, refl, sym, ap, ◌∙◌, subst, arith, min, max, Result, Ok, Err, OnOk, take-append-drop}
use Rattle.std.proofs.{lemmas.Bool.Decides.nat_tests, lemmas.List.same_from_push}
use Rattle.gcd_map.specs.{declared.state.SpaceState.SpaceState, declared.state.Effect.Effect, declared.range.GcdRange.GcdRange}
use Rattle.gcd_map.specs.{AddressSpace.after_effect, Stretch.AllIn, Tests.base_at}
use Rattle.gcd_map.specs.Ranges.{Cover, Differ, state_of}
use Rattle.gcd_map.specs.Growing.{EndsOther, EndsWith, BeginsWith, Opens, Extends, ExtendsBy, Replaces, after}
use Rattle.gcd_map.proofs.Covers.{below_or, Split, cover_split, cover_more, base_here}
use Rattle.gcd_map.proofs.Neighbours.{differ_more, differ_last}

pub on_ok : {A E : Type 0} (r : Result A E) (P Q : Type 0) → (P → Q) → OnOk r P → OnOk r Q
on_ok (Ok a) P Q f p = f p
on_ok (Err e) P Q f p = tt

pub no_items : {A : Type 0} (xs : List A) → length xs ≡ 0 → xs ≡ []
no_items [] e = refl
no_items (x ∷ xs) e = absurd (omega (arith, e))

pub unchanged_below : (space : ℕ → SpaceState) (base end : ℕ) (effect : Effect) (n : ℕ) → n < base → after space base end effect n ≡ space n
unchanged_below space base end effect n less = grind (arith, nat_tests)

pub unchanged_behind : (space : ℕ → SpaceState) (base end : ℕ) (effect : Effect) (n : ℕ) → base ≤ end → end ≤ n → after space base end effect n ≡ space n
unchanged_behind space base end effect n order less = grind (arith, nat_tests)

pub changed_inside : (space : ℕ → SpaceState) (base end : ℕ) (effect : Effect) (n : ℕ) → base ≤ n → n < end → after space base end effect n ≡ after_effect effect (space n)
changed_inside space base end effect n low high = grind (arith, nat_tests)

pub not_extended : (old : List GcdRange) (from to : ℕ) (state : SpaceState) → from ≡ to → Extends old from to state old
not_extended old from to state e = record {
  covers = λ space start c all. subst (λ (n : ℕ). Cover space start old n) e c;
  differ = λ d. d;
  ends = λ less. absurd (omega (arith, less, e));
  keeps = λ first b. b;
  begins = λ less. absurd (omega (arith, less, e));
  nothing = λ _. refl;
}

-- what a range that is taken off covered has the state
reopened : (old mid : List GcdRange) (from to base : ℕ) (state : SpaceState) (last : GcdRange) (space : ℕ → SpaceState) (start : ℕ) → from < to → old ≡ mid ++ last ∷ [] → base ≡ last.base → state_of last ≡ state
    → Cover space start old from → AllIn space from to (λ s. s ≡ state) → Cover space start (mid ++ record { base = base; len = to - base; kind = state.kind; allocated = state.allocated } ∷ []) to
reopened old mid from to base state last space start less is here same c all =
    let cut : Split space start from mid (last ∷ []) = cover_split space start from mid (last ∷ []) (subst (λ (l : List GcdRange). Cover space start l from) is c) in
    let begins : base ≡ cut.mid = here ∙ cut.back.0 in
    let ends : cut.mid + last.len ≡ from = cut.back.3 in
    let some : 0 < last.len = cut.back.1 in
    cover_more space start base to state mid (omega (arith, begins, ends, less)) (subst (λ (n : ℕ). Cover space start mid n) (sym begins) cut.front)
    (λ n low high. elim (below_or n from) [
      | inl h ↦ cut.back.2 n (omega (arith, begins, low)) (omega (arith, ends, h)) ∙ same
      | inr h ↦ all n h high
    ])

pub begins_more : (xs ys : List GcdRange) (first : SpaceState) → BeginsWith xs first → BeginsWith (xs ++ ys) first
begins_more [] ys first b = absurd b
begins_more (x ∷ xs) ys first b = b

begins_alone : (xs : List GcdRange) (r : GcdRange) → [] ≡ xs → BeginsWith (xs ++ r ∷ []) (state_of r)
begins_alone [] r e = refl
begins_alone (x ∷ xs) r e = absurd (cc)

-- another last range of the same state
begins_last : (xs : List GcdRange) (a b : GcdRange) (first : SpaceState) → state_of a ≡ state_of b → BeginsWith (xs ++ a ∷ []) first → BeginsWith (xs ++ b ∷ []) first
begins_last [] a b first same h = sym same ∙ h
begins_last (x ∷ xs) a b first same h = h

not_empty : (xs : List GcdRange) (r : GcdRange) → [] ≡ xs ++ r ∷ [] → ⊥
not_empty [] r e = cc
not_empty (x ∷ xs) r e = cc

pub extended : (old : List GcdRange) (from to : ℕ) (state : SpaceState) (mid : List GcdRange) (base : ℕ) → from < to → Opens old from state mid base
    → Extends old from to state (mid ++ record { base = base; len = to - base; kind = state.kind; allocated = state.allocated } ∷ [])
extended old from to state mid base less (inl p) = record {
  covers = λ space start c all.
      let begins : base ≡ from = p.1 in
      cover_more space start base to state mid (omega (arith, begins, less))
      (subst (λ (n : ℕ). Cover space start mid n) (sym begins) (subst (λ (l : List GcdRange). Cover space start l from) p.0 c)) (λ n low high. all n (omega (arith, begins, low)) high);
  differ = λ d. differ_more mid _ (subst Differ p.0 d) (subst (λ (l : List GcdRange). EndsOther l state) p.0 p.2);
  ends = λ _. (mid, _, refl, refl);
  keeps = λ first b. begins_more mid _ first (subst (λ (l : List GcdRange). BeginsWith l first) p.0 b);
  begins = λ _ empty. begins_alone mid (record { base = base; len = to - base; kind = state.kind; allocated = state.allocated }) (sym empty ∙ p.0);
  nothing = λ same. absurd (omega (arith, less, same));
}
extended old from to state mid base less (inr p) = record {
  covers = λ space start c all. reopened old mid from to base state p.0 space start less p.1 p.2 p.3 c all;
  differ = λ d. differ_last mid p.0 _ p.3 (subst Differ p.1 d);
  ends = λ _. (mid, _, refl, refl);
  keeps = λ first b. begins_last mid p.0 _ first p.3 (subst (λ (l : List GcdRange). BeginsWith l first) p.1 b);
  begins = λ _ empty. absurd (not_empty mid p.0 (sym empty ∙ p.1));
  nothing = λ same. absurd (omega (arith, less, same));
}

-- a range with a change, in three parts
pub extended_by : (old a b new : List GcdRange) (range : GcdRange) (base end to low high : ℕ) (effect : Effect) → base ≤ end → to ≡ range.base + range.len
    → low ≡ min (max base range.base) to → high ≡ min (max end range.base) to
    → Extends old range.base low (state_of range) a → Extends a low high (after_effect effect (state_of range)) b → Extends b high to (state_of range) new
    → ExtendsBy old range base end effect new
extended_by old a b new range base end to low high effect order is low_is high_is front middle back = record {
  covers = λ space start c all.
      let s : ℕ → SpaceState = after space base end effect in
      let one : Cover s start a low = front.covers s start c (λ n l h. unchanged_below space base end effect n (omega (arith, l, h, low_is, is)) ∙ all n l (omega (arith, h, low_is, is))) in
      let two : Cover s start b high = middle.covers s start one (λ n l h. changed_inside space base end effect n (omega (arith, l, h, low_is, high_is, is)) (omega (arith, l, h, low_is, high_is, is))
      ∙ ap (after_effect effect) (all n (omega (arith, l, h, low_is, is)) (omega (arith, h, high_is, is)))) in
      let three : Cover s start new to = back.covers s start two (λ n l h. unchanged_behind space base end effect n order (omega (arith, l, h, high_is, is)) ∙ all n (omega (arith, l, high_is, is)) (omega (arith, h, is))) in
      subst (λ (n : ℕ). Cover s start new n) is three;
  differ = λ d. back.differ (middle.differ (front.differ d));
  ends = λ some less. back.ends (omega (arith, some, less, high_is, is));
  keeps = λ first b. back.keeps first (middle.keeps first (front.keeps first b));
  begins = λ some less empty.
      let one : BeginsWith a (state_of range) = front.begins (omega (arith, some, less, low_is, is)) empty in
      back.keeps (state_of range) (middle.keeps (state_of range) one);
}

-- no range is replaced so far
pub replaced_none : (base end : ℕ) (effect : Effect) → Replaces [] base end effect []
replaced_none base end effect = record {
  covers = λ space from to c. c;
  differ = tt;
  begins = λ first rest e. absurd (cc);
  ends = λ front last e. absurd (not_empty front last e);
  nothing = λ _. refl;
}

same_first : (a b : GcdRange) (xs ys : List GcdRange) → a ∷ xs ≡ b ∷ ys → a ≡ b
same_first a b xs ys e = cc

replaced_first : (done new new' : List GcdRange) (range : GcdRange) (base end : ℕ) (effect : Effect) (first : GcdRange) (rest : List GcdRange)
    → Replaces done base end effect new → ExtendsBy new range base end effect new' → done ++ range ∷ [] ≡ first ∷ rest → 0 < first.len → first.base < base → BeginsWith new' (state_of first)
replaced_first [] new new' range base end effect first rest so by e some less =
    let is : range ≡ first = same_first range first [] rest e in
    subst (λ (r : GcdRange). BeginsWith new' (state_of r)) is
    (by.begins (subst (λ (r : GcdRange). 0 < r.len) (sym is) some) (subst (λ (r : GcdRange). r.base < base) (sym is) less) (so.nothing refl))
replaced_first (x ∷ done) new new' range base end effect first rest so by e some less =
    let is : x ≡ first = same_first x first (done ++ range ∷ []) rest e in
    by.keeps (state_of first) (so.begins first done (ap (λ (r : GcdRange). r ∷ done) is) some less)

-- one range more is replaced
pub replaced_more : (done new new' : List GcdRange) (range : GcdRange) (base end : ℕ) (effect : Effect)
    → Replaces done base end effect new → ExtendsBy new range base end effect new' → Replaces (done ++ range ∷ []) base end effect new'
replaced_more done new new' range base end effect so by = record {
  covers = λ space from to c.
      let s : ℕ → SpaceState = after space base end effect in
      let cut : Split space from to done (range ∷ []) = cover_split space from to done (range ∷ []) c in
      let here : range.base ≡ cut.mid = cut.back.0 in
      let ends : cut.mid + range.len ≡ to = cut.back.3 in
      subst (λ (n : ℕ). Cover s from new' n) (ap (λ (n : ℕ). n + range.len) here ∙ ends)
      (by.covers space from (subst (λ (n : ℕ). Cover s from new n) (sym here) (so.covers space from cut.mid cut.front))
      (λ n low high. cut.back.2 n (omega (arith, here, low)) (omega (arith, here, high))));
  differ = by.differ so.differ;
  begins = λ first rest e some less. replaced_first done new new' range base end effect first rest so by e some less;
  ends = λ front last e some less.
      let is : range ≡ last = (same_from_push done front range last e).1 in
      subst (λ (r : GcdRange). EndsWith new' (state_of r)) is
      (by.ends (subst (λ (r : GcdRange). 0 < r.len) (sym is) some) (subst (λ (r : GcdRange). end < r.base + r.len) (sym is) less));
  nothing = λ e. absurd (not_empty done range (sym e));
}

pub record Parts (space : ℕ → SpaceState) (limit base : ℕ) (ranges : List GcdRange) (at : ℕ) : Type 0 where
  pub mid : ℕ
  pub front : Cover space 0 (take at ranges) mid
  pub back : Cover space mid (drop at ranges) limit
  pub order : mid ≤ base

-- the ranges before that of an address, and the others
pub parts : (space : ℕ → SpaceState) (limit base : ℕ) (ranges : List GcdRange) (at : ℕ) → Cover space 0 ranges limit → at < length ranges → base_at ranges at ≤ base → Parts space limit base ranges at
parts space limit base ranges at c less order =
    let P : List GcdRange → Type 0 = λ l. Cover space 0 l limit in
    let cut : Split space 0 limit (take at ranges) (drop at ranges) = cover_split space 0 limit (take at ranges) (drop at ranges) (subst P (sym (take-append-drop at ranges)) c) in
    record { mid = cut.mid; front = cut.front; back = cut.back; order = omega (arith, order, base_here space cut.mid limit ranges at less cut.back) }
