-- What is kept of EDK2's queue.
use Rattle.std.proofs.Common.{◌≡◌, ℕ, ◌-◌, ◌<◌, ◌≤◌, arith, List, [], ◌∷◌, ◌++◌, length, drop, map, flat_map, refl, sym, ap, ◌∙◌, ◌↔◌, IsTrue, eqb-true, nat_eq, append-nil, length-drop, Result, Ok, Err, OnOk}
use Rattle.std.proofs.{Math.ListN.drop_of_length-le, lemmas.Bool.Decides.nat_tests}
use Rattle.pi_base.specs.declared.phase.Phase.TheVariants.{Dxe}
use Rattle.mod_catalog.specs.{declared.catalogue.Catalog.Catalog, Parts.part_of, Parts.parts_in}
use Rattle.boot_model.specs.{DriverLicence.numbers_of, DxeChoice.a_priori_drivers}
use Rattle.boot_model.proofs.{Distinct.all_differ, Distinct.few_below, ListFacts.each_more, ListFacts.within}
use Rattle.boot_laws.proofs.PartLists.{IsPartOfVolume, drivers_are, ranked_in}
use Rattle.dxe_dispatch.specs.Choosing.{as_apriori}

-- the parts of a volume are no more than there are modules
pub parts_room : (catalog : Catalog) (volume most : ℕ) (none : List ℕ) → none ≡ [] → length catalog.modules ≤ most → length (none ++ parts_in Dxe catalog volume) ≤ most
parts_room catalog volume most none empty few =
    let are = drivers_are catalog volume in
    let below = each_more (IsPartOfVolume Dxe catalog volume) (λ n. n < length catalog.modules) (parts_in Dxe catalog volume) (λ n is. within (part_of Dxe) catalog.modules n is.0) are.1 in
    let fits = few_below (parts_in Dxe catalog volume) (length catalog.modules) (all_differ (parts_in Dxe catalog volume) are.0) below in
    let same : length (none ++ parts_in Dxe catalog volume) ≡ length (parts_in Dxe catalog volume) = ap (λ xs. length (xs ++ parts_in Dxe catalog volume)) empty in
    omega (arith, fits, few, same)

-- the numbers of a priori drivers
numbers_back : (xs : List ℕ) → numbers_of (map as_apriori xs) ≡ xs
numbers_back [] = refl
numbers_back (x ∷ xs) = ap (λ ys. x ∷ ys) (numbers_back xs)

pub numbers_ranked : (catalog : Catalog) (volumes : List ℕ) → numbers_of (a_priori_drivers catalog volumes) ≡ flat_map (ranked_in catalog) volumes
numbers_ranked catalog volumes = numbers_back (flat_map (ranked_in catalog) volumes)

pub one_volume : (catalog : Catalog) (volume : ℕ) → ranked_in catalog volume ≡ numbers_of (a_priori_drivers catalog (volume ∷ []))
one_volume catalog volume = sym (append-nil (ranked_in catalog volume)) ∙ sym (numbers_ranked catalog (volume ∷ []))

-- nothing is left where the head stands at the end of the items
pub at_end : (left items : List ℕ) (head count : ℕ) → left ≡ drop head items → count ≡ length items → head ≤ length items → IsTrue (nat_eq head count) ↔ (left ≡ [])
at_end left items head count is whole within =
    let long : length left ≡ length items - head = ap length is ∙ length-drop head items in (
      λ t. let out : length items ≤ head = omega (arith, eqb-true head count t, whole) in is ∙ drop_of_length-le items out,
      λ none. let empty : length left ≡ 0 = ap length none in grind (arith, nat_tests, long, empty, whole, within),
    )

-- these are those that were appended
pub pushed : {A E : Type 0} (result : Result A E) (old new given numbers : List ℕ) → given ≡ numbers → OnOk result (new ≡ old ++ given) → OnOk result (new ≡ old ++ numbers)
pushed (Ok done) old new given numbers are is = is ∙ ap (λ xs. old ++ xs) are
pushed (Err fault) old new given numbers are is = tt
