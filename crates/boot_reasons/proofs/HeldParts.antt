-- What is told of a part: what it needs, and that it waits.
use Rattle.std.proofs.Common.{◌≡◌, ℕ, Bool, List, [], ◌∷◌, Option, Some, option_map, sym, ap, ◌∙◌, option_to_list}
use Rattle.pi_base.specs.{declared.guid.Guid.Guid, declared.phase.Phase.TheVariants.Pei}
use Rattle.mod_catalog.specs.{declared.catalogue.Catalog.Catalog, declared.catalogue.Part.Part, Parts.part_at}
use Rattle.store_model.specs.{StoreState.StoreState, Service.Install.has_ppi}
use Rattle.boot_model.specs.declared.line.Reason.{Reason}
use Rattle.boot_reasons.specs.{Needs.need_of, Needs.needs_of, Noting.giver_in, PeiReasons.pei_held_by, PeiReasons.pei_held_for}
use Rattle.explain_text.specs.{Change.change_for, declared.reasons.Giver.Giver, declared.reasons.Need.Need}
use Rattle.explain_text.specs.declared.ways.change.Change.{Change}

pub need_is : (map : List (Guid × Giver)) (guid : Guid) (giver : Giver) → giver ≡ giver_in map guid → record { guid = guid; giver = giver } ≡ need_of (giver_in map) guid
need_is map guid giver is = ap (λ g. record { guid = guid; giver = g }) is

-- the part of a module that waits by a reason
pub held_is : (catalog : Catalog) (s : StoreState) (has : Guid → Bool) (giver : Guid → Giver) (number : ℕ) (reason : Reason) (part : Part) (needs : List Need) (change : Option Change) (o : Option Reason)
    → o ≡ Some reason → part_at Pei catalog number ≡ Some part → needs ≡ needs_of giver Pei part.expr → change ≡ change_for has Pei part.expr → ((guid : Guid) → has guid ≡ has_ppi s guid)
    → record { number = number; phase = Pei; reason = reason; needs = needs; change = change } ∷ [] ≡ pei_held_for catalog s giver number o
held_is catalog s has giver number reason part needs change o why at asked coming same =
    let all : has ≡ has_ppi s = λ j guid. same guid j in
    let here : pei_held_for catalog s giver number (Some reason) ≡ pei_held_by s giver number reason part ∷ [] = ap (λ p. option_to_list (option_map (pei_held_by s giver number reason) p)) at in
    let there : change ≡ change_for (has_ppi s) Pei part.expr = coming ∙ ap (λ h. change_for h Pei part.expr) all in
    ap (λ ns. record { number = number; phase = Pei; reason = reason; needs = ns; change = change } ∷ []) asked
    ∙ ap (λ c. record { number = number; phase = Pei; reason = reason; needs = needs_of giver Pei part.expr; change = c } ∷ []) there
    ∙ sym here ∙ ap (λ q. pei_held_for catalog s giver number q) (sym why)
