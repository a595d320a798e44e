-- An index is told of one GUID more; and what the queue shows behind all that an event changed.
use Rattle.std.proofs.Common.{◌≡◌, ℕ, zero, suc, ◌+◌, ◌≤◌, ◌<◌, get_or, take, Bool, true, false, ◌||◌, ◌&&◌, cond, List, [], ◌∷◌, ◌++◌, length, Option, Some, None, arith, refl, ap, sym, subst, ◌∙◌, inl, inr, append_assoc, ◌⊎◌, filter, sum_by, slice_get, unwrap_or, IfSome, option_to_list, append-nil}
use Rattle.std.proofs.{lemmas.List.Sums.sum_by_push, lemmas.Slice.Eq.bytes_eq-Decides}
use Rattle.pi_base.specs.{declared.guid.Guid.Guid, declared.phase.Phase.Phase, Guids.same_guid, Lists.Each, GuidMap.value_of}
use Rattle.mod_catalog.specs.{declared.catalogue.Catalog.Catalog, Parts.has_number}
use Rattle.boot_model.specs.EvaluationBound.{each_once, part_pushes, pei_asked}
use Rattle.boot_model.specs.PeiMachine.{PeiMachine}
use Rattle.boot_laws.specs.ChangedGuids.{is_among}
use Rattle.wait_index.specs.{declared.index.WaitIndex.WaitIndex, declared.standing.Standing.Standing, Places.standing_of, Places.unknown}
use Rattle.wait_index.specs.Index.{IsIndex, IsKnown, IsSet, order_in, has_in, owed, asked}
use Rattle.pei_dispatch.specs.{declared.queue.PeiQueue.PeiQueue, Noted.AreKnown, Noted.IsNoted, Queue.OwesFor, Queue.Shows}
use Rattle.pei_dispatch.specs.View.{View, IsEventOf, event_guids, with_guids}
use Rattle.pei_dispatch.proofs.GuidLists.{firsts_more, among_append}

either : (b : Bool) → (b ≡ true) ⊎ (b ≡ false)
either true = inl refl
either false = inr refl

or_left : (a b : Bool) → (a || b) ≡ false → a ≡ false
or_left true b e = absurd (cc)
or_left false b e = refl

or_none : (a b : Bool) → (a || b) ≡ false → b ≡ false
or_none true b e = absurd (cc)
or_none false b e = e

-- the parts that wait and push a GUID are those of before where all parts stand as before
counted : Catalog → Guid → Phase → List Standing → List ℕ → ℕ
counted catalog guid phase standings order = length (filter (λ number. (unwrap_or (slice_get standings number) unknown).waits && part_pushes phase catalog guid number) order)

pub asked_same : (catalog : Catalog) (old new : WaitIndex) → new.phase ≡ old.phase → new.places.order ≡ old.places.order → new.places.standings ≡ old.places.standings
    → (guid : Guid) → asked catalog new guid ≡ asked catalog old guid
asked_same catalog old new phase order standings guid =
    let waits : List Standing → Phase → ℕ → Bool = λ s p number. (unwrap_or (slice_get s number) unknown).waits && part_pushes p catalog guid number in
    ap (λ xs. length (filter (waits new.places.standings new.phase) xs.items)) order
    ∙ ap (λ s. length (filter (waits s new.phase) old.places.order.items)) standings
    ∙ ap (λ p. length (filter (waits old.places.standings p) old.places.order.items)) phase

sums_alike : (f h : Guid → ℕ) → ((guid : Guid) → f guid ≡ h guid) → (xs : List Guid) → sum_by f xs ≡ sum_by h xs
sums_alike f h same xs = ap (λ g. sum_by g xs) (λ j guid. same guid j)

-- one GUID more, each once: where it is among the others nothing is added
once_more : (f : Guid → ℕ) (xs : List Guid) (x : Guid) → is_among x xs ≡ true → sum_by f (each_once (xs ++ x ∷ [])) ≡ sum_by f (each_once xs)
once_more f xs x here = ap (sum_by f) (firsts_more xs x ∙ ap (λ b. cond b (each_once xs) (each_once xs ++ x ∷ [])) here)

once_new : (f : Guid → ℕ) (xs : List Guid) (x : Guid) → is_among x xs ≡ false → sum_by f (each_once (xs ++ x ∷ [])) ≡ sum_by f (each_once xs) + f x
once_new f xs x none = ap (sum_by f) (firsts_more xs x ∙ ap (λ b. cond b (each_once xs) (each_once xs ++ x ∷ [])) none) ∙ sum_by_push f (each_once xs) x

same_is : (a b : Guid) → same_guid a b ≡ true → a ≡ b
same_is a b e = ap (λ (xs : List ℕ). record { 0 = xs }) ((bytes_eq-Decides a.0 b.0).0 e)

-- nothing was told yet
pub noted_none : (catalog : Catalog) (has : Guid → Bool) (before : List Guid) (index : WaitIndex) → IsIndex catalog index → AreKnown has before index → IsNoted catalog has before [] index index
noted_none catalog has before index is known = record {
  of_catalog = is;
  known = subst (λ (xs : List Guid). AreKnown has xs index) (sym (append-nil before)) known;
  others = λ guid slot here none. refl;
  phase = refl;
  slots = refl;
  order = refl;
  standings = refl;
  few = let same : sum_by (asked catalog index) (each_once (before ++ [])) ≡ sum_by (asked catalog index) (each_once before) = ap (λ xs. sum_by (asked catalog index) (each_once xs)) (append-nil before) in omega (arith, same);
}

-- a GUID that was told already
told_again : (catalog : Catalog) (has : Guid → Bool) (before more : List Guid) (x : Guid) (old mid : WaitIndex) → IsNoted catalog has before more old mid → is_among x (before ++ more) ≡ true
    → IsNoted catalog has before (more ++ x ∷ []) old mid
told_again catalog has before more x old mid noted here =
    let all : (before ++ more) ++ x ∷ [] ≡ before ++ (more ++ x ∷ []) = append_assoc before more (x ∷ []) in
    record {
      of_catalog = noted.of_catalog;
      known = λ guid slot at among. noted.known guid slot at (elim (either (same_guid x guid)) [
        | inl same ↦ ap (λ g. is_among g (before ++ more)) (sym (same_is x guid same)) ∙ here
        | inr apart ↦ in_front (is_among guid (before ++ more)) (same_guid x guid) apart
            (sym (among_append (before ++ more) (x ∷ []) guid) ∙ ap (λ xs. is_among guid xs) all ∙ among)
      ]);
      others = λ guid slot at none. noted.others guid slot at (or_left (is_among guid more) (is_among guid (x ∷ [])) (sym (among_append more (x ∷ []) guid) ∙ none));
      phase = noted.phase;
      slots = noted.slots;
      order = noted.order;
      standings = noted.standings;
      few =
          let same : sum_by (asked catalog old) (each_once (before ++ (more ++ x ∷ []))) ≡ sum_by (asked catalog old) (each_once (before ++ more)) =
          ap (λ xs. sum_by (asked catalog old) (each_once xs)) (sym all) ∙ once_more (asked catalog old) (before ++ more) x here in
          omega (arith, same, noted.few);
    }
  where
    in_front : (a b : Bool) → b ≡ false → (a || (b || false)) ≡ true → a ≡ true
    in_front true b e h = refl
    in_front false true e h = absurd (cc)
    in_front false false e h = absurd (cc)

-- one that was not
told_new : (catalog : Catalog) (has : Guid → Bool) (there : Bool) (before more : List Guid) (x : Guid) (old mid new : WaitIndex) → IsNoted catalog has before more old mid → has x ≡ there
    → is_among x (before ++ more) ≡ false → IsIndex catalog new → IsSet catalog x there mid new → owed new ≤ owed mid + asked catalog mid x → IsNoted catalog has before (more ++ x ∷ []) old new
told_new catalog has there before more x old mid new noted is none index set owes =
    let all : (before ++ more) ++ x ∷ [] ≡ before ++ (more ++ x ∷ []) = append_assoc before more (x ∷ []) in
    let at_mid : (guid : Guid) (slot : ℕ) → value_of new.installed.slots guid ≡ Some slot → value_of mid.installed.slots guid ≡ Some slot = λ guid slot at. ap (λ s. value_of s guid) (sym set.slots) ∙ at in
    record {
      of_catalog = index;
      known = λ guid slot at among. elim (either (same_guid x guid)) [
        | inl same ↦ set.has guid slot (at_mid guid slot at) ∙ ap (λ b. cond b there (has_in mid guid)) same ∙ sym is ∙ ap has (same_is x guid same)
        | inr apart ↦ set.has guid slot (at_mid guid slot at) ∙ ap (λ b. cond b there (has_in mid guid)) apart
            ∙ noted.known guid slot (at_mid guid slot at) (in_front (is_among guid (before ++ more)) (same_guid x guid) apart
            (sym (among_append (before ++ more) (x ∷ []) guid) ∙ ap (λ xs. is_among guid xs) all ∙ among))
      ];
      others = λ guid slot at outside.
          let not_more = or_left (is_among guid more) (is_among guid (x ∷ [])) (sym (among_append more (x ∷ []) guid) ∙ outside) in
          let apart : same_guid x guid ≡ false = or_left (same_guid x guid) false (or_none (is_among guid more) (is_among guid (x ∷ [])) (sym (among_append more (x ∷ []) guid) ∙ outside)) in
          set.has guid slot (ap (λ s. value_of s guid) noted.slots ∙ at) ∙ ap (λ b. cond b there (has_in mid guid)) apart ∙ noted.others guid slot at not_more;
      phase = set.phase ∙ noted.phase;
      slots = set.slots ∙ noted.slots;
      order = set.order ∙ noted.order;
      standings = set.standings ∙ noted.standings;
      few =
          let same : sum_by (asked catalog old) (each_once (before ++ (more ++ x ∷ []))) ≡ sum_by (asked catalog old) (each_once (before ++ more)) + asked catalog old x =
          ap (λ xs. sum_by (asked catalog old) (each_once xs)) (sym all) ∙ once_new (asked catalog old) (before ++ more) x none in
          let one = asked_same catalog old mid noted.phase noted.order noted.standings x in
          omega (arith, same, noted.few, owes, one);
    }
  where
    in_front : (a b : Bool) → b ≡ false → (a || (b || false)) ≡ true → a ≡ true
    in_front true b e h = refl
    in_front false true e h = absurd (cc)
    in_front false false e h = absurd (cc)

pub noted_one : (catalog : Catalog) (has : Guid → Bool) (there : Bool) (before more : List Guid) (x : Guid) (old mid new : WaitIndex) → IsNoted catalog has before more old mid → has x ≡ there
    → IsIndex catalog new → IsSet catalog x there mid new → owed new ≤ owed mid + asked catalog mid x → (IsKnown x there mid → new ≡ mid) → IsNoted catalog has before (more ++ x ∷ []) old new
noted_one catalog has there before more x old mid new noted is index set owes same = elim (either (is_among x (before ++ more))) [
  | inl here ↦
      let known : IsKnown x there mid = λ slot at. noted.known x slot at here ∙ is in
      subst (λ (i : WaitIndex). IsNoted catalog has before (more ++ x ∷ []) old i) (sym (same known)) (told_again catalog has before more x old mid noted here)
  | inr none ↦ told_new catalog has there before more x old mid new noted is none index set owes
]

-- one GUID is told, where none was before
known_none : (has : Guid → Bool) (index : WaitIndex) → AreKnown has [] index
known_none has index guid slot here among = let no : false ≡ true = among in absurd (cc)

pub taken_away : (catalog : Catalog) (has : Guid → Bool) (still : Bool) (x : Guid) (old new : WaitIndex) → IsIndex catalog old → has x ≡ still → IsIndex catalog new → IsSet catalog x still old new
    → owed new ≤ owed old + asked catalog old x → (IsKnown x still old → new ≡ old) → IsNoted catalog has [] (x ∷ []) old new
taken_away catalog has still x old new is told index set owes known = noted_one catalog has still [] [] x old old new (noted_none catalog has [] old is (known_none has old)) told index set owes known

-- behind the one that is taken away and those that are put in
pub noted_shows : (catalog : Catalog) (old mid new : PeiQueue) (view : View) (has : Guid → Bool) (gone : Option Guid) (still : Bool) (there : List Guid) → Shows catalog old view
    → IsEventOf view.has has gone still there → IsNoted catalog has [] (option_to_list gone) old.index mid.index → IsNoted catalog has (option_to_list gone) there mid.index new.index
    → Shows catalog new (with_guids has view)
noted_shows catalog old mid new view has gone still there shows event first last =
    let standings : new.index.places.standings ≡ old.index.places.standings = last.standings ∙ first.standings in
    let order : order_in new.index ≡ order_in old.index = ap (λ o. o.items) (last.order ∙ first.order) in
    let before : (n : ℕ) → has_number (order_in new.index) n ≡ true → has_number (order_in old.index) n ≡ true = λ n h. ap (λ xs. has_number xs n) (sym order) ∙ h in
    let stands : (n : ℕ) → standing_of new.index.places n ≡ standing_of old.index.places n = λ n. ap (λ s. unwrap_or (slice_get s n) unknown) standings in
    record {
      of_catalog = last.of_catalog;
      phase = last.phase ∙ first.phase ∙ shows.phase;
      order = order ∙ shows.order;
      waits = λ n h. ap (λ (s : Standing). s.waits) (stands n) ∙ shows.waits n (before n h);
      opens = λ n h. ap (λ (s : Standing). s.«open») (stands n) ∙ shows.opens n (before n h);
      allowed = λ n h. ap (λ (s : Standing). s.again) (stands n) ∙ shows.allowed n (before n h);
      installed = λ guid slot at.
          let mid_at : value_of mid.index.installed.slots guid ≡ Some slot = ap (λ s. value_of s guid) (sym last.slots) ∙ at in
          let old_at : value_of old.index.installed.slots guid ≡ Some slot = ap (λ s. value_of s guid) (sym first.slots) ∙ mid_at in
          elim (either (is_among guid (event_guids gone there))) [
            | inl here ↦ last.known guid slot at here
            | inr none ↦
                let parts = among_append (option_to_list gone) there guid in
                let outside : (is_among guid (option_to_list gone) || is_among guid there) ≡ false = sym parts ∙ none in
                last.others guid slot mid_at (or_none (is_among guid (option_to_list gone)) (is_among guid there) outside)
                ∙ first.others guid slot old_at (or_left (is_among guid (option_to_list gone)) (is_among guid there) outside)
                ∙ shows.installed guid slot old_at ∙ sym (event.others guid none)
          ];
      within = shows.within;
    }

pub noted_owes : (catalog : Catalog) (m : PeiMachine) (old mid new : PeiQueue) (has : Guid → Bool) (gone : Option Guid) (there : List Guid) → ((guid : Guid) → asked catalog old.index guid ≡ pei_asked catalog m guid)
    → IsNoted catalog has [] (option_to_list gone) old.index mid.index → IsNoted catalog has (option_to_list gone) there mid.index new.index → OwesFor catalog m (event_guids gone there) old new
noted_owes catalog m old mid new has gone there of_machine first last =
    let same = asked_same catalog old.index mid.index first.phase first.order first.standings in
    let one = sums_alike (asked catalog mid.index) (asked catalog old.index) same (each_once (option_to_list gone)) in
    let all = sums_alike (asked catalog mid.index) (asked catalog old.index) same (each_once (event_guids gone there)) in
    let bound = sums_alike (asked catalog old.index) (pei_asked catalog m) of_machine (each_once (event_guids gone there)) in
    omega (arith, first.few, last.few, one, all, bound)

-- what is told of no GUID, or of the one that was taken away
pub told_still : (gone : Option Guid) (still : Bool) → IfSome gone (λ guid. still ≡ still)
told_still None still = tt
told_still (Some guid) still = refl

pub take_whole : (xs : List Guid) (i : ℕ) → length xs ≤ i → take i xs ≡ xs
take_whole [] zero h = refl
take_whole [] (suc i) h = refl
take_whole (x ∷ xs) zero h = absurd (omega (arith, h))
take_whole (x ∷ xs) (suc i) h = ap (λ ys. x ∷ ys) (take_whole xs i (omega (arith, h)))

pub each_guid : (P : Guid → Type 0) (xs : List Guid) (i : ℕ) (none : Guid) → Each P xs → i < length xs → P (get_or xs i none)
each_guid P [] i none each less = absurd (omega (arith, less))
each_guid P (x ∷ xs) zero none each less = each.0
each_guid P (x ∷ xs) (suc i) none each less = each_guid P xs i none each.1 (omega (arith, less))
