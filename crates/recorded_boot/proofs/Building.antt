-- The names of a catalogue, taken module by module.
use Rattle.std.proofs.Common.{◌≡◌, ℕ, zero, suc, ◌+◌, ◌<◌, ◌≤◌, ◌==◌, ◌&&◌, Bool, true, false, cond, List, [], ◌∷◌, Option, Some, None, Err, refl, sym, ap, ◌∙◌, subst, length, slice_get, is_some, arith, inl, inr, ◌⊎◌, unwrap_or, option_map, eqb-true, eq-eqb}
use Rattle.std.proofs.{lemmas.Bool.cases_lt, lemmas.Slice.Eq.bytes_eq-Decides, Math.Nat.eq-or-lt_of_le}
use Rattle.pi_base.specs.{declared.guid.Guid.Guid, Guids.same_guid, Lists.Each, Lists.Ordered, GuidMap.value_of}
use Rattle.mod_catalog.specs.{declared.catalogue.Catalog.Catalog, declared.catalogue.Module.Module}
use Rattle.mod_catalog.specs.Parts.{module_name, module_volume, no_name}
use Rattle.mod_catalog.specs.WellFormed.{IsWellFormed, Precedes}
use Rattle.recorded_boot.specs.Named.{IsNamed, HasTwins, HasNoTwins, IsFirstWithTwins, AreNames, number_in}
use Rattle.recorded_boot.specs.declared.order.names.NamesFault.{NamesFault}
use Rattle.recorded_boot.specs.declared.order.names.NamesFault.TheVariants.{Twins, Memory}
use Rattle.recorded_boot.specs.Taking.{NoneIsKept, IsKept, Keeps, Fails}

none_in : (maps : List (List (Guid × ℕ))) (volume : ℕ) (name : Guid) → Each (λ map. map ≡ []) maps → number_in maps volume name ≡ None
none_in [] volume name h = refl
none_in (map ∷ maps) zero name h = ap (λ m. value_of m name) h.0
none_in (map ∷ maps) (suc n) name h = none_in maps n name h.1

pub none_named : (catalog : Catalog) (maps : List (List (Guid × ℕ))) → NoneIsKept (length catalog.volumes) maps → AreNames catalog 0 maps
none_named catalog maps none = record {
  volumes = none.volumes;
  found = λ volume name number h. let e : None ≡ Some number = sym (none_in maps volume name none.none) ∙ h in cc;
  kept = λ volume name number below is. absurd (omega (arith, below));
}

-- the module at a place
pub at_place : (catalog : Catalog) (k : ℕ) (m : Module) → slice_get catalog.modules k ≡ Some m → (module_volume catalog k ≡ m.volume) × (module_name catalog k ≡ m.name)
at_place catalog k m h = (ap (λ o. unwrap_or (option_map (λ m. m.volume) o) 0) h, ap (λ o. unwrap_or (option_map (λ m. m.name) o) no_name) h)

each_at : {A : Type 0} (P : A → Type 0) (xs : List A) (k : ℕ) (x : A) → Each P xs → slice_get xs k ≡ Some x → P x
each_at P [] k x h e = cc
each_at P (y ∷ ys) zero x h e = let same : y ≡ x = cc in subst P same h.0
each_at P (y ∷ ys) (suc k) x h e = each_at P ys k x h.1 e

ordered_at : {A : Type 0} (R : A → A → Type 0) (xs : List A) (i j : ℕ) (x y : A) → Ordered R xs → i < j → slice_get xs i ≡ Some x → slice_get xs j ≡ Some y → R x y
ordered_at R [] i j x y o less a b = cc
ordered_at R (z ∷ zs) zero zero x y o less a b = absurd (omega (arith, less))
ordered_at R (z ∷ zs) zero (suc j) x y o less a b = let same : z ≡ x = cc in subst (λ w. R w y) same (each_at (R z) zs j y o.0 b)
ordered_at R (z ∷ zs) (suc i) zero x y o less a b = absurd (omega (arith, less))
ordered_at R (z ∷ zs) (suc i) (suc j) x y o less a b = ordered_at R zs i j x y o.1 (omega (arith, less)) a b

no_later : (a b : Module) → Precedes a b → a.volume ≤ b.volume
no_later a b (inl h) = omega (arith, h)
no_later a b (inr h) = omega (arith, h.0)

there : {A : Type 0} (xs : List A) (k : ℕ) → k < length xs → (x : A) × (slice_get xs k ≡ Some x)
there [] k h = absurd (omega (arith, h))
there (x ∷ xs) zero h = (x, refl)
there (x ∷ xs) (suc k) h = there xs k (omega (arith, h))

-- a module before another one is in no later volume
volumes_rise : (catalog : Catalog) → IsWellFormed catalog → (i j : ℕ) → i < j → j < length catalog.modules → module_volume catalog i ≤ module_volume catalog j
volumes_rise catalog sound i j less below =
    let a = there catalog.modules i (omega (arith, less, below)) in
    let b = there catalog.modules j below in
    let le = no_later a.0 b.0 (ordered_at Precedes catalog.modules i j a.0 b.0 sound.in_order less a.1 b.1) in
    let va = (at_place catalog i a.0 a.1).0 in
    let vb = (at_place catalog j b.0 b.1).0 in omega (arith, le, va, vb)

-- names that are all kept are apart
apart_below : (catalog : Catalog) (k : ℕ) (maps : List (List (Guid × ℕ))) → AreNames catalog k maps → (volume : ℕ) (t : HasTwins catalog volume) → t.second < k → ⊥
apart_below catalog k maps names volume t below =
    let less = t.apart in
    let a = names.kept volume t.name t.first (omega (arith, less, below)) t.first_is in
    let b = names.kept volume t.name t.second below t.second_is in
    let same : t.first ≡ t.second = cc in omega (arith, less, same)

pub no_twins : (catalog : Catalog) (maps : List (List (Guid × ℕ))) → AreNames catalog (length catalog.modules) maps → HasNoTwins catalog
no_twins catalog maps names volume t = apart_below catalog (length catalog.modules) maps names volume t t.second_is.is_module

-- a module of an earlier volume comes before it
comes_before : (catalog : Catalog) (k : ℕ) (j : ℕ) → IsWellFormed catalog → j < length catalog.modules → module_volume catalog j < module_volume catalog k → (j < k) ⊎ (k ≤ j) → j < k
comes_before catalog k j sound below less (inl lt) = lt
comes_before catalog k j sound below less (inr ge) = elim (eq-or-lt_of_le ge) as (λ _. j < k) [
  | inl same ↦ absurd (let e : module_volume catalog k ≡ module_volume catalog j = ap (module_volume catalog) same in omega (arith, e, less))
  | inr lt ↦ absurd (let le = volumes_rise catalog sound k j lt below in omega (arith, le, less))
]

-- a name that is kept already is a twin's, and no volume before has twins
found_by : (catalog : Catalog) (k : ℕ) (m : Module) (maps : List (List (Guid × ℕ))) (o : Option ℕ) → IsWellFormed catalog → AreNames catalog k maps → slice_get catalog.modules k ≡ Some m → k < length catalog.modules
    → number_in maps m.volume m.name ≡ o → is_some o ≡ true → IsFirstWithTwins catalog m.volume
found_by catalog k m maps None sound names at below e some = cc
found_by catalog k m maps (Some n) sound names at below e some =
    let is = names.found m.volume m.name n e in
    let here = at_place catalog k m at in
    record {
      twins = record { name = m.name; first = n; second = k; apart = is.1; first_is = is.0; second_is = record { is_module = below; in_volume = here.0; of_name = here.1 } };
      first = λ other less t.
          let v = t.second_is.in_volume in
          let size = t.second_is.is_module in
          let earlier : module_volume catalog t.second < module_volume catalog k = omega (arith, v, less, here.0) in
          apart_below catalog k maps names other t (comes_before catalog k t.second sound size earlier (cases_lt t.second k));
    }

pub found_twins : (catalog : Catalog) (k : ℕ) (m : Module) (maps : List (List (Guid × ℕ))) → IsWellFormed catalog → AreNames catalog k maps → slice_get catalog.modules k ≡ Some m → k < length catalog.modules
    → is_some (number_in maps m.volume m.name) ≡ true → IsFirstWithTwins catalog m.volume
found_twins catalog k m maps sound names at below some = found_by catalog k m maps (number_in maps m.volume m.name) sound names at below refl some

-- a volume that is refused for its twins is the first that has some
pub refused : (A : Type 0) (catalog : Catalog) (k number : ℕ) (m : Module) (old new : List (List (Guid × ℕ))) (fault : NamesFault) → IsWellFormed catalog → AreNames catalog k old → slice_get catalog.modules k ≡ Some m
    → k < length catalog.modules → Keeps m.volume m.name number old new (Err fault) → Fails {A = A} (IsFirstWithTwins catalog) (Err fault)
refused A catalog k number m old new (Twins volume) sound names at below h = subst (IsFirstWithTwins catalog) (sym h.0) (found_twins catalog k m old sound names at below h.1)
refused A catalog k number m old new Memory sound names at below h = tt

-- the names with one module more
and_first : (a b : Bool) → (a && b) ≡ true → a ≡ true
and_first true b h = refl
and_first false b h = cc

and_second : (a b : Bool) → (a && b) ≡ true → b ≡ true
and_second true b h = h
and_second false b h = cc

test_self : (v : ℕ) (n : Guid) → ((v == v) && same_guid n n) ≡ true
test_self v n = (λ j. eq-eqb v v refl j && same_guid n n) ∙ (bytes_eq-Decides n.0 n.0).1 refl

same_guid_is : (a b : Guid) → same_guid a b ≡ true → a ≡ b
same_guid_is a b h = ap (λ bytes. record { 0 = bytes }) ((bytes_eq-Decides a.0 b.0).0 h)

test_is : (a b : ℕ) (n m : Guid) → ((a == b) && same_guid n m) ≡ true → (a ≡ b) × (n ≡ m)
test_is a b n m h = (eqb-true a b (and_first _ _ h), same_guid_is n m (and_second _ _ h))

found_more : (catalog : Catalog) (k : ℕ) (m : Module) (old new : List (List (Guid × ℕ))) (b : Bool) (volume : ℕ) (name : Guid) (number : ℕ) → AreNames catalog k old → slice_get catalog.modules k ≡ Some m → k < length catalog.modules
    → ((volume == m.volume) && same_guid m.name name) ≡ b → cond b (Some k) (number_in old volume name) ≡ Some number → IsNamed catalog volume name number × (number < k + 1)
found_more catalog k m old new true volume name number names at below test h =
    let is = test_is volume m.volume m.name name test in
    let here = at_place catalog k m at in
    let same : k ≡ number = cc in
    (subst (IsNamed catalog volume name) same (record { is_module = below; in_volume = here.0 ∙ sym is.0; of_name = here.1 ∙ is.1 }), omega (arith, same))
found_more catalog k m old new false volume name number names at below test h = let is = names.found volume name number h in (is.0, omega (arith, is.1))

kept_more : (catalog : Catalog) (k : ℕ) (m : Module) (old : List (List (Guid × ℕ))) (b : Bool) (volume : ℕ) (name : Guid) (number : ℕ) → AreNames catalog k old → slice_get catalog.modules k ≡ Some m
    → number_in old m.volume m.name ≡ None → ((volume == m.volume) && same_guid m.name name) ≡ b → number < k + 1 → IsNamed catalog volume name number → (number < k) ⊎ (k ≤ number)
    → cond b (Some k) (number_in old volume name) ≡ Some number
kept_more catalog k m old true volume name number names at fresh test below is (inl lt) =
    let t = test_is volume m.volume m.name name test in
    let had = names.kept volume name number lt is in
    let none : number_in old volume name ≡ None = (λ j. number_in old (t.0 j) (sym t.1 j)) ∙ fresh in cc
kept_more catalog k m old true volume name number names at fresh test below is (inr ge) = ap Some (omega (arith, below, ge))
kept_more catalog k m old false volume name number names at fresh test below is (inl lt) = names.kept volume name number lt is
kept_more catalog k m old false volume name number names at fresh test below is (inr ge) =
    let same : number ≡ k = omega (arith, below, ge) in
    let here = at_place catalog k m at in
    let v : volume ≡ m.volume = sym is.in_volume ∙ ap (module_volume catalog) same ∙ here.0 in
    let n : m.name ≡ name = sym here.1 ∙ sym (ap (module_name catalog) same) ∙ is.of_name in
    let yes : ((volume == m.volume) && same_guid m.name name) ≡ true = (λ j. (v j == m.volume) && same_guid m.name (sym n j)) ∙ test_self m.volume m.name in cc

pub one_more_named : (catalog : Catalog) (k : ℕ) (m : Module) (old new : List (List (Guid × ℕ))) → AreNames catalog k old → slice_get catalog.modules k ≡ Some m → k < length catalog.modules
    → IsKept m.volume m.name k old new → AreNames catalog (k + 1) new
one_more_named catalog k m old new names at below more = record {
  volumes = more.volumes ∙ names.volumes;
  found = λ volume name number h. found_more catalog k m old new _ volume name number names at below refl (sym (more.kept volume name) ∙ h);
  kept = λ volume name number less is. more.kept volume name ∙ kept_more catalog k m old _ volume name number names at more.fresh refl less is (cases_lt number k);
}
