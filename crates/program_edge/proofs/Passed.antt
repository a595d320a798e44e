-- Volumes are passed until the one with the sought number.
use Rattle.std.proofs.Common.{◌≡◌, ◌<◌, ◌≤◌, ◌-◌, ℕ, Bool, true, false, cond, List, [], ◌∷◌, length, take, drop, get_or, nat_lt, Option, Some, None, IfSome, refl, sym, ap, subst, ◌∙◌, arith}
use Rattle.std.proofs.{lemmas.List.take_rest, lemmas.Bool.Decides.nat_tests}
use Rattle.pi_base.specs.{declared.guid.Guid.Guid, declared.phase.Phase.Phase}
use Rattle.boot_plan.specs.declared.plan.Plan.{Plan}
use Rattle.mod_catalog.specs.{declared.catalogue.Catalog.Catalog, Catalogue.IsCatalogue}
use Rattle.program_edge.specs.{declared.noted_volumes.NotedVolume.NotedVolume, Scriptless.AreOf, Starts.has_no_script}
use Rattle.program_edge.specs.NotedVolumes.{AreNotedOf, IsNoted, IsNotedOf, lacks_script}

-- the answer of some volumes is that of those ahead, for the number that is left
abbrev pub IsAhead : (volumes rest : List NotedVolume) → Phase → (volume number : ℕ) → Guid → Type 0
IsAhead volumes rest phase volume number name =
    (catalogs : List Catalog) → AreNotedOf catalogs volumes
    → (ahead : List Catalog) × AreNotedOf ahead rest × (lacks_script catalogs phase volume name ≡ lacks_script ahead phase number name)

pub all_ahead : (volumes : List NotedVolume) (phase : Phase) (volume : ℕ) (name : Guid) → IsAhead volumes volumes phase volume volume name
all_ahead volumes phase volume name catalogs noted = (catalogs, noted, refl)

later : (first : NotedVolume) (after : List NotedVolume) (phase : Phase) (number : ℕ) (name : Guid) → first.count ≤ number
    → (ahead : List Catalog) → AreNotedOf ahead (first ∷ after)
    → (behind : List Catalog) × AreNotedOf behind after × (lacks_script ahead phase number name ≡ lacks_script behind phase (number - first.count) name)
later first after phase number name many [] noted = absurd noted
later first after phase number name many (catalog ∷ behind) noted =
    let same = noted.0.0 in
    let no : nat_lt number (length catalog.volumes) ≡ false = grind (arith, nat_tests) in (
      behind,
      noted.1,
      ap (λ b. cond b (has_no_script catalog phase number name) (lacks_script behind phase (number - length catalog.volumes) name)) no
          ∙ ap (λ n. lacks_script behind phase (number - n) name) (sym same),
    )

pub passed : (volumes rest after : List NotedVolume) (first : NotedVolume) (phase : Phase) (volume number : ℕ) (name : Guid) → rest ≡ first ∷ after
    → first.count ≤ number → IsAhead volumes rest phase volume number name → IsAhead volumes after phase volume (number - first.count) name
passed volumes rest after first phase volume number name here many known catalogs noted =
    let so = known catalogs noted in
    let on = later first after phase number name many so.0 (subst (AreNotedOf so.0) here so.1) in
    (on.0, on.1, so.2 ∙ on.2)

own : (first : NotedVolume) (after : List NotedVolume) (phase : Phase) (number : ℕ) (name : Guid) (result : Bool) → number < first.count
    → ((catalog : Catalog) → AreOf catalog first.scriptless → result ≡ has_no_script catalog phase number name)
    → (ahead : List Catalog) → AreNotedOf ahead (first ∷ after) → result ≡ lacks_script ahead phase number name
own first after phase number name result few answers [] noted = absurd noted
own first after phase number name result few answers (catalog ∷ behind) noted =
    let same = noted.0.0 in
    let yes : nat_lt number (length catalog.volumes) ≡ true = grind (arith, nat_tests) in
    answers catalog noted.0.1
    ∙ sym (ap (λ b. cond b (has_no_script catalog phase number name) (lacks_script behind phase (number - length catalog.volumes) name)) yes)

pub found : (volumes rest after : List NotedVolume) (first : NotedVolume) (phase : Phase) (volume number : ℕ) (name : Guid) (result : Bool) → rest ≡ first ∷ after
    → number < first.count → ((catalog : Catalog) → AreOf catalog first.scriptless → result ≡ has_no_script catalog phase number name)
    → IsAhead volumes rest phase volume number name
    → (catalogs : List Catalog) → AreNotedOf catalogs volumes → result ≡ lacks_script catalogs phase volume name
found volumes rest after first phase volume number name result here few answers known catalogs noted =
    let so = known catalogs noted in
    own first after phase number name result few answers so.0 (subst (AreNotedOf so.0) here so.1) ∙ sym so.2

none : (phase : Phase) (number : ℕ) (name : Guid) (ahead : List Catalog) → AreNotedOf ahead [] → false ≡ lacks_script ahead phase number name
none phase number name [] noted = refl
none phase number name (catalog ∷ behind) noted = absurd noted

pub not_found : (volumes rest : List NotedVolume) (phase : Phase) (volume number : ℕ) (name : Guid) → rest ≡ [] → IsAhead volumes rest phase volume number name
    → (catalogs : List Catalog) → AreNotedOf catalogs volumes → false ≡ lacks_script catalogs phase volume name
not_found volumes rest phase volume number name here known catalogs noted =
    let so = known catalogs noted in
    none phase number name so.0 (subst (AreNotedOf so.0) here so.1) ∙ sym so.2

-- a list is its first item and those behind it
pub front : (rest : List NotedVolume) (first : NotedVolume) → 1 ≤ length rest → first ≡ get_or rest 0 first → rest ≡ first ∷ take (length rest - 1) (drop 1 rest)
front [] first some is = absurd (omega (arith, some))
front (volume ∷ rest) first some is = ap (λ v. v ∷ rest) (sym is) ∙ ap (λ l. first ∷ l) (sym (take_rest (volume ∷ rest) 1))

pub nothing_left : (rest : List NotedVolume) → length rest < 1 → rest ≡ []
nothing_left [] few = refl
nothing_left (volume ∷ rest) few = absurd (omega (arith, few))

-- what is noted of the catalogue of an image alone is noted of the image
pub noted_alone : (plan : Plan) (images : List (List ℕ)) (image : List ℕ) (catalog : Catalog) (noted : Option NotedVolume) → images ≡ image ∷ []
    → IsCatalogue plan images catalog → IfSome noted (IsNotedOf catalog) → IfSome noted (IsNoted image)
noted_alone plan images image catalog None alone is of = tt
noted_alone plan images image catalog (Some noted) alone is of = (plan, catalog, subst (λ all. IsCatalogue plan all catalog) alone is, of)
