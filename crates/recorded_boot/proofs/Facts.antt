-- Which modules a text names, and that each part that may start is one.
use Rattle.std.proofs.Common.{◌≡◌, ◌<◌, ℕ, zero, suc, Bool, true, false, cond, ◌||◌, List, [], ◌∷◌, Option, Some, None, refl, sym, ap, ◌∙◌, subst, length, arith, inl, inr, is_some, option_map, unwrap_or, slice_get, option_and_then}
use Rattle.std.proofs.lemmas.Bool.Decides.{eqb_tells}
use Rattle.pi_base.specs.{Lists.Each, declared.phase.Phase.TheVariants.Pei}
use Rattle.mod_catalog.specs.{declared.catalogue.Catalog.Catalog, declared.catalogue.Module.Module, declared.catalogue.Part.Part}
use Rattle.mod_catalog.specs.Parts.{has_number, module_name, module_volume, no_name, part_at, part_of}
use Rattle.mod_catalog.specs.WellFormed.{IsWellFormed}
use Rattle.boot_model.specs.{declared.licence.Licence.Licence, PeiMachine.PeiMachine}
use Rattle.boot_model.specs.Eligible.{is_eligible, may_start, may_start_again}
use Rattle.boot_laws.specs.PeiUnderWay.{IsUnderWay}
use Rattle.line_words.specs.PrintedWords.{IsGuid}
use Rattle.trace_reader.specs.Readable.{IsReadable}
use Rattle.recorded_boot.specs.{Named.IsNamed, Named.AreGuids, Starting.start_of}

each_at : {X : Type 0} (P : X → Type 0) (xs : List X) (n : ℕ) (x : X) → Each P xs → slice_get xs n ≡ Some x → P x
each_at P [] n x h e = cc
each_at P (y ∷ ys) zero x h e = let same : y ≡ x = cc in subst P same h.0
each_at P (y ∷ ys) (suc n) x h e = each_at P ys n x h.1 e

place_within : {X : Type 0} (xs : List X) (n : ℕ) (x : X) → slice_get xs n ≡ Some x → n < length xs
place_within [] n x e = cc
place_within (y ∷ ys) zero x e = omega arith
place_within (y ∷ ys) (suc n) x e = let rest = place_within ys n x e in omega (arith, rest)

each_number : (P : ℕ → Type 0) (xs : List ℕ) (n : ℕ) → Each P xs → has_number xs n ≡ true → P n
each_number P [] n h e = absurd (cc)
each_number P (x ∷ xs) n h e = elim (eqb_tells x n) [
  | inl same ↦ subst P same.1 h.0
  | inr other ↦ each_number P xs n h.1 (ap (λ b. b || has_number xs n) (sym other.0) ∙ e)
]

-- a part that may start is there
part_there : (catalog : Catalog) (m : PeiMachine) (number : ℕ) → IsUnderWay catalog m → is_eligible catalog m number ≡ true → is_some (part_at Pei catalog number) ≡ true
part_there catalog m number way may = by (has_number m.started number) refl
  where
    found : (o : Option Part) → may_start m.store o ≡ true → is_some o ≡ true
    found None e = e
    found (Some part) e = refl

    by : (b : Bool) → has_number m.started number ≡ b → is_some (part_at Pei catalog number) ≡ true
    by true e = each_number (λ n. is_some (part_at Pei catalog n) ≡ true) m.started number way.parts e
    by false e = found (part_at Pei catalog number) (ap (λ b. cond b (may_start_again m number) (may_start m.store (part_at Pei catalog number))) (sym e) ∙ may)

-- a part, with its module
pub record IsPartOfModule (catalog : Catalog) (number : ℕ) : Type 0 where
  pub part : Part
  pub found : part_at Pei catalog number ≡ Some part
  pub named : IsNamed catalog (module_volume catalog number) (module_name catalog number) number
  pub readable : (licence : Licence) → IsReadable (start_of Pei catalog number licence)

module_of : (catalog : Catalog) (number : ℕ) → IsWellFormed catalog → AreGuids catalog → is_some (part_at Pei catalog number) ≡ true → IsPartOfModule catalog number
module_of catalog number well guids there = by (slice_get catalog.modules number) refl
  where
    some : (o : Option Part) → is_some o ≡ true → (part : Part) × (o ≡ Some part)
    some None e = absurd (cc)
    some (Some part) e = (part, refl)

    by : (o : Option Module) → slice_get catalog.modules number ≡ o → IsPartOfModule catalog number
    by None e = let none : is_some (part_at Pei catalog number) ≡ false = ap (λ o. is_some (option_and_then (part_of Pei) o)) e in absurd (cc)
    by (Some m) e =
        let volume : module_volume catalog number ≡ m.volume = ap (λ o. unwrap_or (option_map (λ (x : Module). x.volume) o) 0) e in
        let name : module_name catalog number ≡ m.name = ap (λ o. unwrap_or (option_map (λ (x : Module). x.name) o) no_name) e in
        let within = place_within catalog.modules number m e in
        let below : m.volume < length catalog.volumes = each_at (λ x. x.volume < length catalog.volumes) catalog.modules number m well.in_range e in
        let few = well.few_volumes in
        let guid : IsGuid m.name = each_at (λ x. IsGuid x.name) catalog.modules number m guids e in
        let part = some (part_at Pei catalog number) there in
        record {
          part = part.0;
          found = part.1;
          named = record { is_module = within; in_volume = refl; of_name = refl };
          readable = λ licence. (omega (arith, volume, below, few), subst IsGuid (sym name) guid);
        }

pub part_of_module : (catalog : Catalog) (m : PeiMachine) (number : ℕ) → IsWellFormed catalog → AreGuids catalog → IsUnderWay catalog m → is_eligible catalog m number ≡ true → IsPartOfModule catalog number
part_of_module catalog m number well guids way may = module_of catalog number well guids (part_there catalog m number way may)
