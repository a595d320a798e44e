-- Parts come one after the other.
use Rattle.std.proofs.Common.{◌≡◌, ℕ, zero, suc, ◌+◌, ◌≤◌, ◌<◌, Bool, true, false, ◌||◌, List, [], ◌∷◌, ◌++◌, length, take, drop, get_or, arith, ap, refl, sym, subst, ◌∙◌, inl, inr, append_assoc, ◌==◌}
use Rattle.std.proofs.lemmas.Bool.Decides.{eqb_tells}
use Rattle.pi_base.specs.{declared.phase.Phase.Phase, Lists.Each}
use Rattle.mod_catalog.specs.{declared.catalogue.Catalog.Catalog, Parts.has_number, Parts.part_at}
use Rattle.boot_model.specs.Licence.{AllDiffer}
use Rattle.wait_index.specs.{declared.installed.Installed.Installed, declared.places.Places.Places, declared.index.WaitIndex.WaitIndex}
use Rattle.wait_index.specs.Discovery.{new_standing, opens, IsNew, HaveCome}
use Rattle.wait_index.specs.{Index.AreWatched, Index.IsIndex, Installed.is_there, Verdict.verdict_of}
use Rattle.wait_index.specs.Places.{order_of, standing_of, AreJudged}
use Rattle.wait_index.proofs.Arrivals.{differs_from}

split_at : (xs : List ℕ) (i : ℕ) → i < length xs → xs ≡ take i xs ++ get_or xs i 0 ∷ drop (i + 1) xs
split_at [] i less = absurd (omega (arith, less))
split_at (x ∷ xs) zero less = refl
split_at (x ∷ xs) (suc i) less = let e : suc i + 1 ≡ suc (i + 1) = omega arith in rw e (ap (λ ys. x ∷ ys) (split_at xs i (omega (arith, less))))

take_more : (xs : List ℕ) (i : ℕ) → i < length xs → take (i + 1) xs ≡ take i xs ++ get_or xs i 0 ∷ []
take_more [] i less = absurd (omega (arith, less))
take_more (x ∷ xs) zero less = refl
take_more (x ∷ xs) (suc i) less = let e : suc i + 1 ≡ suc (i + 1) = omega arith in rw e (ap (λ ys. x ∷ ys) (take_more xs i (omega (arith, less))))

pub take_all : (xs : List ℕ) (n : ℕ) → length xs ≤ n → take n xs ≡ xs
take_all [] zero le = refl
take_all [] (suc n) le = refl
take_all (x ∷ xs) zero le = absurd (omega (arith, le))
take_all (x ∷ xs) (suc n) le = ap (λ ys. x ∷ ys) (take_all xs n (omega (arith, le)))

-- a part that comes has no place yet
pub is_new : (order now parts : List ℕ) (i : ℕ) → i < length parts → AllDiffer (order ++ parts) → now ≡ order ++ take i parts → has_number now (get_or parts i 0) ≡ false
is_new order now parts i less differ e =
    let apart : AllDiffer ((order ++ take i parts) ++ get_or parts i 0 ∷ drop (i + 1) parts) =
    subst AllDiffer (ap (λ xs. order ++ xs) (split_at parts i less) ∙ sym (append_assoc order (take i parts) (get_or parts i 0 ∷ drop (i + 1) parts))) differ in
    ap (λ xs. has_number xs (get_or parts i 0)) e ∙ differs_from (order ++ take i parts) (get_or parts i 0) (drop (i + 1) parts) apart

pub each_at : (P : ℕ → Type 0) (xs : List ℕ) (i : ℕ) → Each P xs → i < length xs → P (get_or xs i 0)
each_at P [] i each less = absurd (omega (arith, less))
each_at P (x ∷ xs) zero each less = each.0
each_at P (x ∷ xs) (suc i) each less = each_at P xs i each.1 (omega (arith, less))

has_more : (xs : List ℕ) (n q : ℕ) → has_number (xs ++ n ∷ []) q ≡ (has_number xs q || ((n == q) || false))
has_more [] n q = refl
has_more (x ∷ xs) n q = assoc (x == q) (has_number (xs ++ n ∷ []) q) (has_number xs q) ((n == q) || false) (has_more xs n q)
  where
    assoc : (a b c d : Bool) → b ≡ (c || d) → (a || b) ≡ ((a || c) || d)
    assoc true b c d e = refl
    assoc false b c d e = e

before_it : (a b : Bool) → b ≡ false → (a || (b || false)) ≡ true → a ≡ true
before_it true b e h = refl
before_it false true e h = absurd (cc)
before_it false false e h = absurd (cc)

neither : (a b : Bool) → (a || (b || false)) ≡ false → (a ≡ false) × (b ≡ false)
neither true b h = absurd (cc)
neither false true h = absurd (cc)
neither false false h = (refl, refl)

equal_is : (n q : ℕ) → n ≡ q → (n == q) ≡ true
equal_is n q e = elim (eqb_tells n q) [ inl same ↦ same.0 | inr apart ↦ absurd (apart.1 e) ]

one_more : (phase : Phase) (catalog : Catalog) (xs : List ℕ) (n : ℕ) (old mid new : Places) (is_open : Bool) → is_open ≡ opens phase (part_at phase catalog n) → HaveCome phase catalog xs old mid
    → order_of new ≡ order_of mid ++ n ∷ [] → standing_of new n ≡ new_standing (length (order_of mid)) is_open
    → ((other : ℕ) → ¬ (n ≡ other) → standing_of new other ≡ standing_of mid other) → length new.standings ≡ length mid.standings
    → HaveCome phase catalog (xs ++ n ∷ []) old new
one_more phase catalog xs n old mid new is_open opened come order here others as_many = record {
  order = order ∙ ap (λ ys. ys ++ n ∷ []) come.order ∙ append_assoc (order_of old) xs (n ∷ []);
  new_ones = λ q h. elim (eqb_tells n q) [
    | inl same ↦ subst (λ k. IsNew (opens phase (part_at phase catalog k)) (standing_of new k)) same.1 (record {
      waits = ap (λ s. s.waits) here;
      again = ap (λ s. s.again) here;
      «open» = ap (λ s. s.«open») here ∙ opened;
    })
    | inr apart ↦
        subst (IsNew (opens phase (part_at phase catalog q))) (sym (others q apart.1))
        (come.new_ones q (before_it (has_number xs q) (n == q) apart.0 (sym (has_more xs n q) ∙ h)))
  ];
  others = λ q h.
      let none = neither (has_number xs q) (n == q) (sym (has_more xs n q) ∙ h) in
      others q (λ e. let no : true ≡ false = sym (equal_is n q e) ∙ none.1 in cc) ∙ come.others q none.0;
  as_many = as_many ∙ come.as_many;
}

pub come_more : (phase : Phase) (catalog : Catalog) (parts : List ℕ) (i : ℕ) (old mid new : Places) (is_open : Bool) → i < length parts
    → is_open ≡ opens phase (part_at phase catalog (get_or parts i 0)) → HaveCome phase catalog (take i parts) old mid
    → order_of new ≡ order_of mid ++ get_or parts i 0 ∷ [] → standing_of new (get_or parts i 0) ≡ new_standing (length (order_of mid)) is_open
    → ((other : ℕ) → ¬ (get_or parts i 0 ≡ other) → standing_of new other ≡ standing_of mid other) → length new.standings ≡ length mid.standings
    → HaveCome phase catalog (take (i + 1) parts) old new
come_more phase catalog parts i old mid new is_open less opened come order here others as_many =
    subst (λ (xs : List ℕ). HaveCome phase catalog xs old new) (sym (take_more parts i less))
    (one_more phase catalog (take i parts) (get_or parts i 0) old mid new is_open opened come order here others as_many)

pub index_from : (catalog : Catalog) (old new : WaitIndex) → new.phase ≡ old.phase → new.installed ≡ old.installed → new.watchers ≡ old.watchers → IsIndex catalog old
    → AreJudged (verdict_of old.phase catalog (is_there old.installed)) new.places → length new.places.standings ≡ length old.places.standings → IsIndex catalog new
index_from catalog old new phase installed watchers is judged as_many = record {
  watched =
      subst (λ (p : Phase). AreWatched p catalog new.installed new.watchers) (sym phase)
      (subst (λ (i : Installed). AreWatched old.phase catalog i new.watchers) (sym installed)
      (subst (λ (w : List (List ℕ)). AreWatched old.phase catalog old.installed w) (sym watchers) is.watched));
  judged =
      subst (λ (p : Phase). AreJudged (verdict_of p catalog (is_there new.installed)) new.places) (sym phase)
      (subst (λ (i : Installed). AreJudged (verdict_of old.phase catalog (is_there i)) new.places) (sym installed) judged);
  as_many = as_many ∙ is.as_many;
}
