-- Volumes more in the order, with their drivers.
use Rattle.std.proofs.Common.{◌≡◌, ℕ, zero, suc, ◌-◌, ◌<◌, ◌≤◌, List, [], ◌∷◌, ◌++◌, length, take, drop, refl, sym, subst, ap, ◌∙◌, arith, append_assoc, length-append}
use Rattle.pi_base.specs.declared.phase.Phase.TheVariants.{Dxe}
use Rattle.mod_catalog.specs.{declared.catalogue.Catalog.Catalog, Parts.part_of, Parts.parts_in}
use Rattle.boot_model.specs.{DxeChoice.drivers_of, Licence.AllDiffer}
use Rattle.boot_model.proofs.ListFacts.{each_more, within}
use Rattle.boot_model.proofs.Distinct.{all_differ, all_distinct, few_below}
use Rattle.boot_laws.proofs.PartLists.{IsKnown, distinct_of, known_of, drivers_are}
use Rattle.phase_parts.specs.Known.{AreKnown}
use Rattle.dxe_core.specs.{declared.names.Names.Names, Order.IsOrderOf}
use Rattle.dxe_core.specs.Names.{AreDriverNames, NamesGrow, order_by}

-- the drivers of volumes that differ are no more than the modules
few_drivers : (catalog : Catalog) (volumes : List ℕ) → AllDiffer volumes → length (drivers_of catalog volumes) ≤ length catalog.modules
few_drivers catalog volumes differ =
    let order = drivers_of catalog volumes in
    few_below order (length catalog.modules) (all_differ order (distinct_of catalog (parts_in Dxe catalog) (drivers_are catalog) volumes (all_distinct volumes differ)))
    (each_more (IsKnown catalog volumes) (λ n. n < length catalog.modules) order (λ n is. within (part_of Dxe) catalog.modules n is.0) (known_of catalog (parts_in Dxe catalog) (drivers_are catalog) volumes))

drivers_of_both : (catalog : Catalog) (volumes more : List ℕ) → drivers_of catalog (volumes ++ more) ≡ drivers_of catalog volumes ++ drivers_of catalog more
drivers_of_both catalog [] more = refl
drivers_of_both catalog (volume ∷ volumes) more =
    ap (λ xs. parts_in Dxe catalog volume ++ xs) (drivers_of_both catalog volumes more) ∙ sym (append_assoc (parts_in Dxe catalog volume) (drivers_of catalog volumes) (drivers_of catalog more))

-- what has come behind a list
behind : (old more : List ℕ) → drop (length old) (old ++ more) ≡ more
behind [] more = refl
behind (x ∷ old) more = behind old more

whole : (xs : List ℕ) (n : ℕ) → n ≡ length xs → take n xs ≡ xs
whole [] zero e = refl
whole [] (suc n) e = refl
whole (x ∷ xs) zero e = absurd (omega (arith, e))
whole (x ∷ xs) (suc n) e = ap (λ ys. x ∷ ys) (whole xs n (omega (arith, e)))

pub new_part : (all known old more : List ℕ) → all ≡ old ++ more → known ≡ old → take (length all - length known) (drop (length known) all) ≡ more
new_part all known old more is same =
    let sum = length-append old more in
    let long = ap length is in
    let short = ap length same in
    let left : length all - length known ≡ length more = omega (arith, sum, long, short) in
    let rest : drop (length known) all ≡ more = ap (λ n. drop n all) short ∙ ap (drop (length old)) is ∙ behind old more in
    ap (λ n. take n (drop (length known) all)) left ∙ ap (take (length more)) rest ∙ whole more (length more) refl

-- there is room for the drivers of volumes more
pub room_more : (catalog : Catalog) (volumes more new now drivers : List ℕ) (most : ℕ) → length catalog.modules ≤ most → AreKnown catalog now → now ≡ volumes ++ more → new ≡ more
    → drivers ≡ drivers_of catalog volumes → length (drivers ++ drivers_of catalog new) ≤ most
room_more catalog volumes more new now drivers most few known is same are =
    let fits = few_drivers catalog now known.differ in
    let all : drivers ++ drivers_of catalog new ≡ drivers_of catalog now =
    ap (λ xs. xs ++ drivers_of catalog new) are ∙ ap (λ xs. drivers_of catalog volumes ++ drivers_of catalog xs) same ∙ sym (drivers_of_both catalog volumes more) ∙ ap (drivers_of catalog) (sym is) in
    let long = ap length all in
    omega (arith, fits, few, long)

pub names_of : (catalog : Catalog) (volumes listed drivers : List ℕ) (names : Names) → IsOrderOf catalog volumes (order_by listed drivers names) → AreDriverNames catalog (drivers_of catalog volumes) names
names_of catalog volumes listed drivers names is = record { first_is = is.first_is; befores_are = is.befores_are; afters_are = is.afters_are; asking_are = is.asking_are }

pub order_more : (catalog : Catalog) (volumes more listed now drivers grown numbers : List ℕ) (old new : Names) → AreKnown catalog now → now ≡ volumes ++ more
    → grown ≡ drivers ++ drivers_of catalog more → numbers ≡ drivers_of catalog more → NamesGrow catalog old numbers new
    → IsOrderOf catalog volumes (order_by listed drivers old) → IsOrderOf catalog (volumes ++ more) (order_by now grown new)
order_more catalog volumes more listed now drivers grown numbers old new known is grows are names before =
    let both = drivers_of_both catalog volumes more in
    let all : drivers_of catalog volumes ++ numbers ≡ drivers_of catalog (volumes ++ more) = ap (λ xs. drivers_of catalog volumes ++ xs) are ∙ sym both in
    let later = subst (λ xs. AreDriverNames catalog xs new) all (names (drivers_of catalog volumes) (names_of catalog volumes listed drivers old before)) in
    record {
      known = subst (AreKnown catalog) is known;
      volumes_are = is;
      drivers_are = grows ∙ ap (λ xs. xs ++ drivers_of catalog more) before.drivers_are ∙ sym both;
      first_is = later.first_is;
      befores_are = later.befores_are;
      afters_are = later.afters_are;
      asking_are = later.asking_are;
    }
