-- Who has a GUID installed, a step further.
use Rattle.std.proofs.Common.{◌≡◌, ◌<◌, ◌≤◌, ◌-◌, arith, ℕ, Bool, true, false, ◌||◌, cond, List, [], ◌∷◌, ◌++◌, length, get_or, Option, Some, None, refl, sym, ap, ◌∙◌, subst, drop, take, unwrap_or}
use Rattle.std.proofs.lemmas.Slice.Eq.{bytes_eq-Decides}
use Rattle.pi_base.specs.{declared.guid.Guid.Guid, Guids.same_guid, GuidMap.IsPut, GuidMap.value_of}
use Rattle.boot_laws.specs.ChangedGuids.{is_among}
use Rattle.explain_text.specs.declared.reasons.Giver.{Giver}
use Rattle.explain_text.specs.declared.reasons.Giver.TheVariants.{Core, Module, Absent}
use Rattle.boot_reasons.specs.Givers.{actor_by, giver_along}
use Rattle.boot_reasons.specs.Noting.{AreNoted, IsPresent, giver_behind, giver_in, giver_or}
use Rattle.boot_reasons.proofs.WalkedLists.{left_after}

or_none : (b : Bool) → (b || false) ≡ b
or_none true = refl
or_none false = refl

same_is : (a b : Guid) → same_guid a b ≡ true → a ≡ b
same_is a b e = ap (λ bytes. record { 0 = bytes }) ((bytes_eq-Decides a.0 b.0).0 e)

-- one GUID is noted where it is put so
pub noted_one : (has : Guid → Bool) (actor giver : Giver) (guid : Guid) (old new : List (Guid × Giver)) → giver ≡ giver_behind (giver_in old guid) (has guid) actor → IsPut old guid giver new → AreNoted has actor (guid ∷ []) old new
noted_one has actor giver guid old new is put other = by (same_guid guid other) refl (put other)
  where
    by : (b : Bool) → same_guid guid other ≡ b → value_of new other ≡ cond b (Some giver) (value_of old other)
        → giver_in new other ≡ cond (b || false) (giver_behind (giver_in old other) (has other) actor) (giver_in old other)
    by true e h =
        let here : giver_in new other ≡ giver = ap (λ o. unwrap_or o Absent) h in
        let P : Guid → Type 0 = λ g. giver ≡ giver_behind (giver_in old g) (has g) actor in
        here ∙ subst P (same_is guid other e) is
    by false e h = ap (λ o. unwrap_or o Absent) h

-- none is
pub noted_none : (has : Guid → Bool) (actor : Giver) (map : List (Guid × Giver)) → AreNoted has actor [] map map
noted_none has actor map guid = refl

or_again : (before actor : Giver) → giver_or (giver_or before actor) actor ≡ giver_or before actor
or_again Core actor = refl
or_again (Module number) actor = refl
or_again Absent Core = refl
or_again Absent (Module number) = refl
or_again Absent Absent = refl

behind_again : (before actor : Giver) (there : Bool) → giver_behind (giver_behind before there actor) there actor ≡ giver_behind before there actor
behind_again before actor true = or_again before actor
behind_again before actor false = refl

among_both : (guid : Guid) (xs ys : List Guid) → is_among guid (xs ++ ys) ≡ (is_among guid xs || is_among guid ys)
among_both guid [] ys = refl
among_both guid (x ∷ xs) ys = ap (λ b. same_guid x guid || b) (among_both guid xs ys) ∙ by (same_guid x guid)
  where
    by : (b : Bool) → (b || (is_among guid xs || is_among guid ys)) ≡ ((b || is_among guid xs) || is_among guid ys)
    by true = refl
    by false = refl

-- some, and then others
pub noted_then : (has : Guid → Bool) (actor : Giver) (xs ys : List Guid) (old mid new : List (Guid × Giver)) → AreNoted has actor xs old mid → AreNoted has actor ys mid new → AreNoted has actor (xs ++ ys) old new
noted_then has actor xs ys old mid new first second guid =
    second guid ∙ ap (λ giver. cond (is_among guid ys) (giver_behind giver (has guid) actor) giver) (first guid)
    ∙ by (is_among guid xs) (is_among guid ys) ∙ ap (λ b. cond b (giver_behind (giver_in old guid) (has guid) actor) (giver_in old guid)) (sym (among_both guid xs ys))
  where
    now : Giver
    now = giver_in old guid

    by : (a b : Bool) → cond b (giver_behind (cond a (giver_behind now (has guid) actor) now) (has guid) actor) (cond a (giver_behind now (has guid) actor) now) ≡ cond (a || b) (giver_behind now (has guid) actor) now
    by true true = behind_again now actor (has guid)
    by true false = refl
    by false true = refl
    by false false = refl

-- the first of them, and then those that are left
pub noted_on : (has : Guid → Bool) (actor : Giver) (guids : List Guid) (d : Guid) (old mid new : List (Guid × Giver)) → 1 ≤ length guids → AreNoted has actor (get_or guids 0 d ∷ []) old mid
    → AreNoted has actor (take (length guids - 1) (drop 1 guids)) mid new → AreNoted has actor guids old new
noted_on has actor guids d old mid new some first rest =
    subst (λ xs. AreNoted has actor xs old new) (left_after guids d some) (noted_then has actor (get_or guids 0 d ∷ []) (take (length guids - 1) (drop 1 guids)) old mid new first rest)

-- no GUID is noted
pub none_noted : (has : Guid → Bool) (actor : Giver) (guids : List Guid) (map : List (Guid × Giver)) → length guids < 1 → AreNoted has actor guids map map
none_noted has actor [] map none = λ guid. refl
none_noted has actor (first ∷ rest) map none = absurd (omega (arith, none))

-- over the same set by another name
pub noted_over : (has other : Guid → Bool) (actor : Giver) (guids : List Guid) (old new : List (Guid × Giver)) → ((guid : Guid) → has guid ≡ other guid) → AreNoted has actor guids old new → AreNoted other actor guids old new
noted_over has other actor guids old new same noted guid = noted guid ∙ ap (λ there. cond (is_among guid guids) (giver_behind (giver_in old guid) there actor) (giver_in old guid)) (same guid)

pub actor_present : (running : Option ℕ) → IsPresent (actor_by running)
actor_present None = tt
actor_present (Some number) = tt

-- the first machine of a run
abbrev pub first_of : {A : Type 0} → List A → A → A
first_of [] m = m
first_of (before ∷ earlier) m = first_of earlier before

-- nobody has what is not installed
absent : {A : Type 0} (has : A → Guid → Bool) (actor : A → Giver) (earlier : List A) (m : A) (guid : Guid) → has m guid ≡ false → giver_along has actor earlier m guid ≡ Absent
absent has actor [] m guid e = refl
absent has actor (before ∷ earlier) m guid e = ap (λ b. cond b (cond (has before guid) (giver_along has actor earlier before guid) (actor before)) Absent) e

-- and somebody what is
present : {A : Type 0} (has : A → Guid → Bool) (actor : A → Giver) (earlier : List A) (m : A) (guid : Guid) → ((x : A) → IsPresent (actor x)) → has (first_of earlier m) guid ≡ false → has m guid ≡ true
    → IsPresent (giver_along has actor earlier m guid)
present has actor [] m guid all none e = let never : false ≡ true = sym none ∙ e in absurd (cc)
present has actor (before ∷ earlier) m guid all none e =
    let P : Bool → Type 0 = λ b. IsPresent (cond b (cond (has before guid) (giver_along has actor earlier before guid) (actor before)) Absent) in
    let here : P true = by (has before guid) refl (present has actor earlier before guid all none) (all before) in
    subst P (sym e) here
  where
    by : (b : Bool) → has before guid ≡ b → (has before guid ≡ true → IsPresent (giver_along has actor earlier before guid)) → IsPresent (actor before)
        → IsPresent (cond b (giver_along has actor earlier before guid) (actor before))
    by true t were now = were t
    by false t were now = now

-- where a step changes nothing
pub giver_still : {A : Type 0} (has : A → Guid → Bool) (actor : A → Giver) (earlier : List A) (m later : A) (guid : Guid) → has later guid ≡ has m guid
    → giver_along has actor (m ∷ earlier) later guid ≡ giver_along has actor earlier m guid
giver_still has actor earlier m later guid same = ap (λ b. cond b (cond (has m guid) (giver_along has actor earlier m guid) (actor m)) Absent) same ∙ by (has m guid) refl
  where
    by : (b : Bool) → has m guid ≡ b → cond b (cond b (giver_along has actor earlier m guid) (actor m)) Absent ≡ giver_along has actor earlier m guid
    by true e = refl
    by false e = sym (absent has actor earlier m guid e)

-- of a machine in which the same is installed
pub giver_same : {A : Type 0} (has : A → Guid → Bool) (actor : A → Giver) (earlier : List A) (m other : A) (guid : Guid) → has other guid ≡ has m guid → giver_along has actor earlier other guid ≡ giver_along has actor earlier m guid
giver_same has actor [] m other guid same = refl
giver_same has actor (before ∷ earlier) m other guid same = ap (λ b. cond b (cond (has before guid) (giver_along has actor earlier before guid) (actor before)) Absent) same

or_present : (before actor : Giver) → IsPresent before → giver_or before actor ≡ before
or_present Core actor p = refl
or_present (Module number) actor p = refl
or_present Absent actor p = absurd p

-- where the GUIDs that it may change were noted
pub giver_on : {A : Type 0} (has : A → Guid → Bool) (actor : A → Giver) (earlier : List A) (m later : A) (guids : List Guid) (old new : List (Guid × Giver)) → ((x : A) → IsPresent (actor x)) → ((guid : Guid) → has (first_of earlier m) guid ≡ false)
    → AreNoted (has later) (actor m) guids old new → ((guid : Guid) → giver_in old guid ≡ giver_along has actor earlier m guid) → ((guid : Guid) → is_among guid guids ≡ false → has later guid ≡ has m guid)
    → (guid : Guid) → giver_in new guid ≡ giver_along has actor (m ∷ earlier) later guid
giver_on has actor earlier m later guids old new all none noted before others guid =
    noted guid ∙ ap (λ giver. cond (is_among guid guids) (giver_behind giver (has later guid) (actor m)) giver) (before guid) ∙ by (is_among guid guids) refl
  where
    now : Giver
    now = giver_along has actor earlier m guid

    came : (b : Bool) → has m guid ≡ b → giver_or now (actor m) ≡ cond b now (actor m)
    came true e = or_present now (actor m) (present has actor earlier m guid all (none guid) e)
    came false e = ap (λ giver. giver_or giver (actor m)) (absent has actor earlier m guid e)

    changed : (there : Bool) → giver_behind now there (actor m) ≡ cond there (cond (has m guid) now (actor m)) Absent
    changed true = came (has m guid) refl
    changed false = refl

    by : (b : Bool) → is_among guid guids ≡ b → cond b (giver_behind now (has later guid) (actor m)) now ≡ giver_along has actor (m ∷ earlier) later guid
    by true e = changed (has later guid)
    by false e = sym (giver_still has actor earlier m later guid (others guid e))
