-- The index as it is made: no part has a place, nothing is installed, and each GUID that is pushed is watched.
use Rattle.std.proofs.Common.{◌≡◌, ℕ, zero, suc, ◌+◌, ◌<◌, Bool, true, false, ◌||◌, List, [], ◌∷◌, ◌++◌, length, take, get_or, Option, Some, None, arith, ap, refl, sym, subst, ◌∙◌, slice_get, unwrap_or, option_map, replicate, option_and_then}
use Rattle.pi_base.specs.{declared.guid.Guid.Guid, declared.phase.Phase.Phase, declared.phase.Phase.TheVariants.Dxe, GuidMap.value_of}
use Rattle.wait_index.specs.{PlaceFlags.flag, declared.installed.Installed.Installed, declared.places.Places.Places}
use Rattle.wait_index.proofs.{Flags.none_set, Noting.module_pushes, Noting.noted_watchers}
use Rattle.boot_model.specs.{declared.known_guid.TheConstants.ARCHITECTURAL, EvaluationBound.expression_pushes, EvaluationBound.part_pushes}
use Rattle.mod_catalog.specs.{declared.catalogue.Catalog.Catalog, declared.catalogue.Module.Module, WellFormed.part_of}
use Rattle.pi_base.specs.{Guids.same_guid, Lists.EachPair}
use Rattle.wait_index.specs.{declared.watch.Watch.Watch, Index.AreWatched, Index.watchers_at, Installed.is_there, Installed.slot_says}
use Rattle.wait_index.specs.Places.{order_of, standing_of, unknown, IsInOrder}
use Rattle.wait_index.specs.Watching.{IsNumbering, Covers, AreNoted, module_code, code_pushes, modules_push, noted_from}

all_unknown : (n number : ℕ) → unwrap_or (slice_get (replicate n unknown) number) unknown ≡ unknown
all_unknown zero number = refl
all_unknown (suc n) zero = refl
all_unknown (suc n) (suc number) = all_unknown n number

pub none_placed : (places : Places) (n : ℕ) → order_of places ≡ [] → places.standings ≡ replicate n unknown → ((place : ℕ) → flag places.ready place ≡ false) → ((place : ℕ) → flag places.later place ≡ false)
    → ((place : ℕ) → flag places.stale place ≡ false) → IsInOrder places
none_placed places n order standings ready later stale = record {
  placed = λ p m e. absurd (no_one p m (ap (λ xs. slice_get xs p) (sym order) ∙ e));
  known = λ m p e.
      let none : (standing_of places m).place ≡ None = ap (λ xs. (unwrap_or (slice_get xs m) unknown).place) standings ∙ ap (λ s. s.place) (all_unknown n m) in
      let no : None ≡ Some p = sym none ∙ e in
      absurd (cc);
  ready = λ p m e. absurd (no_one p m (ap (λ xs. slice_get xs p) (sym order) ∙ e));
  later = λ p m e. absurd (no_one p m (ap (λ xs. slice_get xs p) (sym order) ∙ e));
  behind = λ p le. (ready p, later p, stale p);
  few = let none : length (order_of places) ≡ 0 = ap length order in omega (arith, none);
}
  where
    no_one : (p m : ℕ) → slice_get [] p ≡ Some m → ⊥
    no_one p m e = let no : None ≡ Some m = e in cc

pub nothing_there : (installed : Installed) (n : ℕ) → installed.there ≡ replicate n false → (guid : Guid) → is_there installed guid ≡ false
nothing_there installed n e guid = ap (λ xs. slot_says xs (value_of installed.slots guid)) e ∙ says (value_of installed.slots guid)
  where
    says : (o : Option ℕ) → slot_says (replicate n false) o ≡ false
    says None = refl
    says (Some slot) = none_set n slot

modules_push_at : (phase : Phase) (guid : Guid) (ms : List Module) (n : ℕ) (m : Module) → slice_get ms n ≡ Some m → code_pushes guid (module_code phase m) ≡ true → modules_push phase guid ms ≡ true
modules_push_at phase guid [] n m at pushes = let no : None ≡ Some m = at in absurd (cc)
modules_push_at phase guid (x ∷ ms) zero m at pushes =
    let same : x ≡ m = cc in
    ap (λ b. b || modules_push phase guid ms) (ap (λ k. code_pushes guid (module_code phase k)) same ∙ pushes)
modules_push_at phase guid (x ∷ ms) (suc n) m at pushes = later (code_pushes guid (module_code phase x)) (modules_push phase guid ms) (modules_push_at phase guid ms n m at pushes)
  where
    later : (a b : Bool) → b ≡ true → (a || b) ≡ true
    later true b e = refl
    later false b e = e

there_is_one : (phase : Phase) (guid : Guid) (o : Option Module) → unwrap_or (option_map (λ p. expression_pushes guid p.expr) (option_and_then (part_of phase) o)) false ≡ true → (m : Module) × (o ≡ Some m)
there_is_one phase guid (Some m) e = (m, refl)
there_is_one phase guid None e = let no : false ≡ true = e in absurd (cc)

all_push : (phase : Phase) (catalog : Catalog) (guid : Guid) (number : ℕ) → part_pushes phase catalog guid number ≡ true → modules_push phase guid catalog.modules ≡ true
all_push phase catalog guid number pushes =
    let m = there_is_one phase guid (slice_get catalog.modules number) pushes in
    modules_push_at phase guid catalog.modules number m.0 m.1 (module_pushes phase catalog guid number m.0 m.1 ∙ pushes)

pub covers_on : (test : Guid → Bool) (a b c : Watch) → Covers test a b → Covers (λ guid. false) b c → Covers test a c
covers_on test a b c covers keeps = record {
  kept = λ guid slot here. keeps.kept guid slot (covers.kept guid slot here);
  covered = λ guid passes. let its = covers.covered guid passes in (its.0, keeps.kept guid its.0 its.1);
}

pub watched_made : (phase : Phase) (catalog : Catalog) (before watch : Watch) (installed : Installed) (old new made : List (List ℕ)) → IsNumbering watch
    → Covers (λ guid. modules_push phase guid catalog.modules) before watch → old ≡ watch.watchers
    → AreNoted watch.slots (λ guid list. noted_from phase guid 0 list catalog.modules) old new → made ≡ new → installed.slots ≡ watch.slots → length installed.there ≡ length watch.watchers
    → (phase ≡ Dxe → EachPair (λ guid slot. value_of installed.slots guid ≡ Some slot) ARCHITECTURAL installed.protocols) → AreWatched phase catalog installed made
watched_made phase catalog before watch installed old new made is covers was noted result slots there protocols = record {
  watched = λ guid slot here.
      let at : value_of watch.slots guid ≡ Some slot = ap (λ s. value_of s guid) (sym slots) ∙ here in
      ap (λ ls. watchers_at ls slot) result ∙ noted.lists guid slot at
      ∙ ap (λ l. noted_from phase guid 0 l catalog.modules) (ap (λ ls. watchers_at ls slot) was ∙ is.empty slot) ∙ noted_watchers phase catalog guid;
  apart = λ guid other slot here also. is.apart guid other slot (ap (λ s. value_of s guid) (sym slots) ∙ here) (ap (λ s. value_of s other) (sym slots) ∙ also);
  room = λ guid slot here.
      let less = is.below guid slot (ap (λ s. value_of s guid) (sym slots) ∙ here) in
      omega (arith, less, there);
  pushed = λ guid number pushes.
      let its = covers.covered guid (all_push phase catalog guid number pushes) in
      (its.0, ap (λ s. value_of s guid) slots ∙ its.1);
  protocols = protocols;
}

pair_more : {A B : Type 0} (R : A → B → Type 0) (xs : List A) (ys : List B) (x : A) (y : B) → EachPair R xs ys → R x y → EachPair R (xs ++ x ∷ []) (ys ++ y ∷ [])
pair_more R [] [] x y pairs r = (r, tt)
pair_more R [] (b ∷ ys) x y pairs r = absurd pairs
pair_more R (a ∷ xs) [] x y pairs r = absurd pairs
pair_more R (a ∷ xs) (b ∷ ys) x y pairs r = (pairs.0, pair_more R xs ys x y pairs.1 r)

pairs_kept : {A B : Type 0} (R S : A → B → Type 0) (xs : List A) (ys : List B) → ((a : A) (b : B) → R a b → S a b) → EachPair R xs ys → EachPair S xs ys
pairs_kept R S [] [] f pairs = tt
pairs_kept R S [] (b ∷ ys) f pairs = absurd pairs
pairs_kept R S (a ∷ xs) [] f pairs = absurd pairs
pairs_kept R S (a ∷ xs) (b ∷ ys) f pairs = (f a b pairs.0, pairs_kept R S xs ys f pairs.1)

take_one : (xs : List Guid) (i : ℕ) (x d : Guid) → i < length xs → x ≡ get_or xs i d → take (i + 1) xs ≡ take i xs ++ x ∷ []
take_one [] i x d less e = absurd (omega (arith, less))
take_one (y ∷ xs) zero x d less e = ap (λ z. z ∷ []) (sym e)
take_one (y ∷ xs) (suc i) x d less e = let n : suc i + 1 ≡ suc (i + 1) = omega arith in rw n (ap (λ ys. y ∷ ys) (take_one xs i x d (omega (arith, less)) e))

pub slots_more : (old new : Watch) (guids : List Guid) (slots : List ℕ) (i : ℕ) (guid d : Guid) (slot : ℕ) → i < length guids → guid ≡ get_or guids i d → Covers (same_guid guid) old new
    → value_of new.slots guid ≡ Some slot → EachPair (λ g s. value_of old.slots g ≡ Some s) (take i guids) slots
    → EachPair (λ g s. value_of new.slots g ≡ Some s) (take (i + 1) guids) (slots ++ slot ∷ [])
slots_more old new guids slots i guid d slot less item covers here pairs =
    subst (λ (gs : List Guid). EachPair (λ g s. value_of new.slots g ≡ Some s) gs (slots ++ slot ∷ [])) (sym (take_one guids i guid d less item))
    (pair_more (λ g s. value_of new.slots g ≡ Some s) (take i guids) slots guid slot
    (pairs_kept (λ g s. value_of old.slots g ≡ Some s) (λ g s. value_of new.slots g ≡ Some s) (take i guids) slots covers.kept pairs) here)
