-- A part comes behind the others: there is room, and it has a place of its own.
use Rattle.std.proofs.Common.{◌≡◌, ℕ, zero, suc, ◌+◌, ◌≤◌, ◌<◌, Bool, true, false, ◌||◌, List, [], ◌∷◌, ◌++◌, length, Some, None, arith, ap, refl, sym, subst, ◌∙◌, inl, inr, length-append, slice_get, ◌⊎◌, ◌==◌, nat_eq}
use Rattle.std.specs.List.{IsDistinct, AllByRecursion, list_any}
use Rattle.std.proofs.{lemmas.Bool.Decides.eqb_tells, lemmas.Bool.Decides.Decides-eqb, lemmas.Option.slice_get_within}
use Rattle.std.proofs.lemmas.Map.Steps.{length-le_from_distinct_below}
use Rattle.wait_index.specs.{PlaceFlags.flag, declared.verdict.Verdict.Verdict, declared.places.Places.Places, Discovery.new_standing}
use Rattle.boot_model.specs.Licence.{AllDiffer}
use Rattle.mod_catalog.specs.Parts.{has_number}
use Rattle.wait_index.specs.Places.{order_of, standing_of, IsInOrder, AreJudged}
use Rattle.wait_index.specs.Standing.{is_ready, is_later}
use Rattle.wait_index.proofs.Standings.{is_within}

pub has_at : (xs : List ℕ) (place number : ℕ) → slice_get xs place ≡ Some number → has_number xs number ≡ true
has_at [] place number at = let no : None ≡ Some number = at in absurd (cc)
has_at (x ∷ xs) zero number at =
    let same : x ≡ number = cc in
    ap (λ b. b || has_number xs number) ((Decides-eqb x number).1 same)
has_at (x ∷ xs) (suc place) number at = later (x == number) (has_number xs number) (has_at xs place number at)
  where
    later : (a b : Bool) → b ≡ true → (a || b) ≡ true
    later true b e = refl
    later false b e = e

all_at : (P : ℕ → Type 0) (xs : List ℕ) → ((place x : ℕ) → slice_get xs place ≡ Some x → P x) → AllByRecursion P xs
all_at P [] h = tt
all_at P (x ∷ xs) h = (h 0 x refl, all_at P xs (λ place y at. h (suc place) y at))

differ_at : (x y : ℕ) → (x ≡ y → ⊥) → nat_eq x y ≡ false
differ_at x y off = elim (eqb_tells x y) [ inl same ↦ absurd (off same.1) | inr apart ↦ apart.0 ]

distinct_at : (xs : List ℕ) → ((i j x : ℕ) → slice_get xs i ≡ Some x → slice_get xs j ≡ Some x → i ≡ j) → IsDistinct nat_eq xs
unfolding IsDistinct
distinct_at [] h = tt
distinct_at (x ∷ xs) h = (
  all_at (λ y. nat_eq x y ≡ false) xs (λ place y at. differ_at x y (λ e. let no = h 0 (suc place) x refl (at ∙ ap Some (sym e)) in omega (arith, no))),
  distinct_at xs (λ i j y e f. less_one i j (h (suc i) (suc j) y e f)),
)
  where
    less_one : (i j : ℕ) → suc i ≡ suc j → i ≡ j
    less_one i j e = omega (arith, e)

place_in : (xs : List ℕ) (x : ℕ) → list_any (nat_eq x) xs ≡ true → (place : ℕ) × (slice_get xs place ≡ Some x)
place_in [] x h = let no : false ≡ true = h in absurd (cc)
place_in (y ∷ xs) x h = elim (eqb_tells x y) [
  | inl same ↦ (0, ap Some (sym same.1))
  | inr apart ↦
      let at = place_in xs x (rest (nat_eq x y) (list_any (nat_eq x) xs) apart.0 h) in
      (suc at.0, at.1)
]
  where
    rest : (a b : Bool) → a ≡ false → (a || b) ≡ true → b ≡ true
    rest true b e h = absurd (cc)
    rest false b e h = h

one_place_of : (places : Places) → IsInOrder places → (i j x : ℕ) → slice_get (order_of places) i ≡ Some x → slice_get (order_of places) j ≡ Some x → i ≡ j
one_place_of places is i j x e f =
    let a = is.placed i x e in
    let b = is.placed j x f in
    cc

not_there : (xs : List ℕ) (number place x : ℕ) → has_number xs number ≡ false → slice_get xs place ≡ Some x → number ≡ x → ⊥
not_there xs number place x none at same =
    let no : true ≡ false = sym (has_at xs place number (at ∙ ap Some (sym same))) ∙ none in
    cc

distinct_more : (number : ℕ) (xs : List ℕ) → has_number xs number ≡ false → IsDistinct nat_eq xs → IsDistinct nat_eq (number ∷ xs)
unfolding IsDistinct
distinct_more number xs none distinct = (all_at (λ y. nat_eq number y ≡ false) xs (λ place y at. differ_at number y (not_there xs number place y none at)), distinct)

-- a part that has no place finds room
pub room_for : (places : Places) (number : ℕ) → IsInOrder places → has_number (order_of places) number ≡ false → number < length places.standings → length places.standings ≤ 4096
    → length (order_of places) < 4096
room_for places number is none within few =
    let order = order_of places in
    let distinct = distinct_more number order none (distinct_at order (one_place_of places is)) in
    let most = length-le_from_distinct_below (number ∷ order) (length places.standings) distinct (λ q h.
    let at = place_in (number ∷ order) q h in
    below at.0 q at.1) in
    omega (arith, most, few)
  where
    below : (place q : ℕ) → slice_get (number ∷ order_of places) place ≡ Some q → q < length places.standings
    below zero q at = let same : number ≡ q = cc in subst (λ n. n < length places.standings) same within
    below (suc place) q at = is_within places place q is at

-- what is written where a part comes
pub record IsAdded (old new : Places) (number : ℕ) (is_open : Bool) : Type 0 where
  pub order : order_of new ≡ order_of old ++ number ∷ []
  pub here : standing_of new number ≡ new_standing (length (order_of old)) is_open
  pub others : (other : ℕ) → ¬ (number ≡ other) → standing_of new other ≡ standing_of old other
  pub ready : new.ready ≡ old.ready
  pub later : new.later ≡ old.later
  pub stale : flag new.stale (length (order_of old)) ≡ true
  pub stale_others : (other : ℕ) → ¬ (length (order_of old) ≡ other) → flag new.stale other ≡ flag old.stale other

at_end : (xs : List ℕ) (x place n : ℕ) → slice_get (xs ++ x ∷ []) place ≡ Some n → (slice_get xs place ≡ Some n) ⊎ ((place ≡ length xs) × (x ≡ n))
at_end [] x zero n at = let same : x ≡ n = cc in inr (refl, same)
at_end [] x (suc place) n at = let no : None ≡ Some n = at in absurd (cc)
at_end (y ∷ xs) x zero n at = inl at
at_end (y ∷ xs) x (suc place) n at = elim (at_end xs x place n at) [ inl before ↦ inl before | inr last ↦ inr (ap suc last.0, last.1) ]

in_front : (xs ys : List ℕ) (place n : ℕ) → slice_get xs place ≡ Some n → slice_get (xs ++ ys) place ≡ Some n
in_front [] ys place n at = let no : None ≡ Some n = at in absurd (cc)
in_front (x ∷ xs) ys zero n at = at
in_front (x ∷ xs) ys (suc place) n at = in_front xs ys place n at

pub last_one : (xs : List ℕ) (x : ℕ) → slice_get (xs ++ x ∷ []) (length xs) ≡ Some x
last_one [] x = refl
last_one (y ∷ xs) x = last_one xs x

not_ready : (place : ℕ) (is_open : Bool) → is_ready (new_standing place is_open) ≡ false
not_ready place true = refl
not_ready place false = refl

not_later : (place : ℕ) (is_open : Bool) → is_later (new_standing place is_open) ≡ false
not_later place true = refl
not_later place false = refl

apart_from : (old : Places) (number place n : ℕ) → has_number (order_of old) number ≡ false → slice_get (order_of old) place ≡ Some n → number ≡ n → ⊥
apart_from old number place n none at same = not_there (order_of old) number place n none at same

pub added : (old new : Places) (number : ℕ) (is_open : Bool) → IsInOrder old → has_number (order_of old) number ≡ false → length (order_of old) < 4096 → IsAdded old new number is_open → IsInOrder new
added old new number is_open is none room to = record {
  placed = λ p n e. elim (at_end (order_of old) number p n (ap (λ xs. slice_get xs p) (sym to.order) ∙ e)) [
    | inl was ↦ ap (λ s. s.place) (to.others n (apart_from old number p n none was)) ∙ is.placed p n was
    | inr last ↦ ap (λ k. (standing_of new k).place) (sym last.1) ∙ ap (λ s. s.place) to.here ∙ ap Some (sym last.0)
  ];
  known = λ n p e. ap (λ xs. slice_get xs p) to.order ∙ elim (eqb_tells number n) [
    | inl same ↦
        let now : (standing_of new number).place ≡ Some p = ap (λ k. (standing_of new k).place) same.1 ∙ e in
        let one : length (order_of old) ≡ p = one_of (length (order_of old)) p (ap (λ s. s.place) (sym to.here) ∙ now) in
        ap (slice_get (order_of old ++ number ∷ [])) (sym one) ∙ last_one (order_of old) number ∙ ap Some same.1
    | inr apart ↦ in_front (order_of old) (number ∷ []) p n (is.known n p (ap (λ s. s.place) (sym (to.others n apart.1)) ∙ e))
  ];
  ready = λ p n e. ap (λ xs. flag xs p) to.ready ∙ elim (at_end (order_of old) number p n (ap (λ xs. slice_get xs p) (sym to.order) ∙ e)) [
    | inl was ↦ is.ready p n was ∙ ap is_ready (sym (to.others n (apart_from old number p n none was)))
    | inr last ↦
        (is.behind p (omega (arith, last.0))).0 ∙ sym (not_ready (length (order_of old)) is_open) ∙ ap is_ready (sym to.here) ∙ ap (λ k. is_ready (standing_of new k)) last.1
  ];
  later = λ p n e. ap (λ xs. flag xs p) to.later ∙ elim (at_end (order_of old) number p n (ap (λ xs. slice_get xs p) (sym to.order) ∙ e)) [
    | inl was ↦ is.later p n was ∙ ap is_later (sym (to.others n (apart_from old number p n none was)))
    | inr last ↦
        (is.behind p (omega (arith, last.0))).1 ∙ sym (not_later (length (order_of old)) is_open) ∙ ap is_later (sym to.here) ∙ ap (λ k. is_later (standing_of new k)) last.1
  ];
  behind = λ p le.
      let long : length (order_of new) ≡ length (order_of old) + 1 = ap length to.order ∙ length-append (order_of old) (number ∷ []) in
      let none = is.behind p (omega (arith, le, long)) in
      (ap (λ xs. flag xs p) to.ready ∙ none.0, ap (λ xs. flag xs p) to.later ∙ none.1, to.stale_others p (λ e. omega (arith, le, long, e)) ∙ none.2);
  few =
      let long : length (order_of new) ≡ length (order_of old) + 1 = ap length to.order ∙ length-append (order_of old) (number ∷ []) in
      omega (arith, long, room);
}
  where
    one_of : (a b : ℕ) → Some a ≡ Some b → a ≡ b
    one_of a b e = cc

pub judged_added : (old new : Places) (number : ℕ) (is_open : Bool) (judge : ℕ → Verdict) → has_number (order_of old) number ≡ false → IsAdded old new number is_open
    → AreJudged judge old → AreJudged judge new
judged_added old new number is_open judge none to judged p n e waits fresh =
    elim (at_end (order_of old) number p n (ap (λ xs. slice_get xs p) (sym to.order) ∙ e)) [
      | inl was ↦
          let at = to.others n (apart_from old number p n none was) in
          let less = slice_get_within (order_of old) p n was in
          ap (λ s. s.verdict) at ∙ judged p n was (ap (λ s. s.waits) (sym at) ∙ waits) (sym (to.stale_others p (λ same. omega (arith, less, same))) ∙ fresh)
      | inr last ↦
          let no : true ≡ false = sym to.stale ∙ ap (flag new.stale) (sym last.0) ∙ fresh in
          absurd (cc)
    ]

-- of numbers that differ, one in the middle is not among those before it
pub differs_from : (xs : List ℕ) (y : ℕ) (ys : List ℕ) → AllDiffer (xs ++ y ∷ ys) → has_number xs y ≡ false
differs_from [] y ys all = refl
differs_from (x ∷ xs) y ys all = neither (x == y) (has_number xs y) (front (x == y) (eqb_tells x y) (not_in xs y ys x all.0)) (differs_from xs y ys all.1)
  where
    neither : (a b : Bool) → a ≡ false → b ≡ false → (a || b) ≡ false
    neither true b e f = e
    neither false b e f = f

    not_in : (rest : List ℕ) (z : ℕ) (zs : List ℕ) (w : ℕ) → has_number (rest ++ z ∷ zs) w ≡ false → w ≡ z → ⊥
    not_in rest z zs w none same =
        let at : slice_get (rest ++ z ∷ zs) (length rest) ≡ Some z = middle rest z zs in
        not_there (rest ++ z ∷ zs) w (length rest) z none at same
      where
        middle : (us : List ℕ) (v : ℕ) (vs : List ℕ) → slice_get (us ++ v ∷ vs) (length us) ≡ Some v
        middle [] v vs = refl
        middle (u ∷ us) v vs = middle us v vs

    front : (b : Bool) → ((b ≡ true) × (x ≡ y)) ⊎ ((b ≡ false) × (x ≡ y → ⊥)) → (x ≡ y → ⊥) → b ≡ false
    front b (inl same) off = absurd (off same.1)
    front b (inr apart) off = apart.0
