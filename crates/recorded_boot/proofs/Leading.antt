-- From the text's next line to the driver of the group that it starts.
use Rattle.std.proofs.Common.{◌≡◌, ℕ, zero, suc, ◌<◌, true, List, [], ◌∷◌, Option, Some, length, refl, sym, ap, ◌∙◌, subst, arith, is_some, slice_get, unwrap_or, option_map}
use Rattle.pi_base.specs.{declared.guid.Guid.Guid, declared.phase.Phase.TheVariants.Dxe, Lists.Each}
use Rattle.mod_catalog.specs.{declared.catalogue.Catalog.Catalog, declared.catalogue.Module.Module, WellFormed.IsWellFormed}
use Rattle.mod_catalog.specs.Parts.{module_name, module_volume, part_at, part_of}
use Rattle.boot_model.specs.{declared.driver.Scheduled.Scheduled, DriverLicence.numbers_of, DxeMachine.DxeMachine, FreeRun.MaySchedule}
use Rattle.boot_model.specs.DxeChoice.{companion_group, driver_licence, group_scheduled, schedule_of}
use Rattle.boot_model.proofs.ListFacts.{within}
use Rattle.boot_laws.specs.DxeAim.{GroupsAreAimed, IsChoosing, NamesLeadToRoot, follows}
use Rattle.boot_laws.specs.DxeUnderWay.{FewDriversWait, IsDriverOf, IsUnderWay}
use Rattle.recorded_boot.specs.{declared.trace.spelled.Spelled.Spelled, Spelled.IsRight, Spelled.left, Named.AreGuids, Named.AreNames}
use Rattle.line_words.specs.PrintedWords.{IsGuid}
use Rattle.dxe_dispatch.specs.Choices.{root_of}
use Rattle.dxe_dispatch.proofs.Targets.{Leading}
use Rattle.recorded_boot.specs.{Starting.NamesNext, DxeAim.BeginsWithStart, DxeAim.LeadsTo}
use Rattle.recorded_boot.proofs.FreeSteps.{AreReadable}

-- the start of a driver is a readable line
guid_at : (ms : List Module) (number : ℕ) → Each (λ m. IsGuid m.name) ms → number < length ms → (found : Module) × (slice_get ms number ≡ Some found) × IsGuid found.name
guid_at [] number e below = absurd (omega (arith, below))
guid_at (m ∷ ms) zero e below = (m, refl, e.0)
guid_at (m ∷ ms) (suc number) e below = guid_at ms number e.1 (omega (arith, below))

volume_at : (ms : List Module) (number most : ℕ) → Each (λ m. m.volume < most) ms → number < length ms → unwrap_or (option_map (λ (m : Module). m.volume) (slice_get ms number)) 0 < most
volume_at [] number most e below = absurd (omega (arith, below))
volume_at (m ∷ ms) zero most e below = e.0
volume_at (m ∷ ms) (suc number) most e below = volume_at ms number most e.1 (omega (arith, below))

pub starts_readable : (catalog : Catalog) → IsWellFormed catalog → AreGuids catalog → AreReadable catalog
starts_readable catalog well guids next driver =
    let number = next.module_number in
    let below : number < length catalog.modules = within (part_of Dxe) catalog.modules number driver in
    let found = guid_at catalog.modules number guids below in
    let volume : module_volume catalog number < length catalog.volumes = volume_at catalog.modules number (length catalog.volumes) well.in_range below in
    let few = well.few_volumes in
    let name : module_name catalog number ≡ found.0.name = name_is catalog.modules number found.0 found.1 in
    (omega (arith, volume, few), subst IsGuid (sym name) found.2)
  where
    name_is : (ms : List Module) (number : ℕ) (found : Module) → slice_get ms number ≡ Some found → module_name (record catalog { modules = ms }) number ≡ found.name
    name_is ms number found is = rw is refl

-- what the first of a group is
pub group_first : (catalog : Catalog) (m : DxeMachine) (root : ℕ) (first : Scheduled) (rest : List Scheduled) → group_scheduled catalog m (Some root) ≡ first ∷ rest → (more : List ℕ) × (companion_group catalog m root ≡ first.module_number ∷ more)
group_first catalog m root first rest is = by (companion_group catalog m root) refl is
  where
    first_is : (x : ℕ) (xs : List ℕ) → schedule_of catalog (x ∷ xs) ≡ first ∷ rest → x ≡ first.module_number
    first_is x xs e = let same : record { module_number = x; licence = driver_licence (part_at Dxe catalog x) } ≡ first = cc in ap (λ (s : Scheduled). s.module_number) same

    by : (numbers : List ℕ) → companion_group catalog m root ≡ numbers → schedule_of catalog numbers ≡ first ∷ rest → (more : List ℕ) × (companion_group catalog m root ≡ first.module_number ∷ more)
    by [] e f = cc
    by (x ∷ xs) e f = (xs, e ∙ ap (λ n. n ∷ xs) (first_is x xs f))

one_number : (a b : ℕ) → Some a ≡ Some b → a ≡ b
one_number a b e = cc

first_known : (catalog : Catalog) (m : DxeMachine) (other : ℕ) (first : Scheduled) (rest : List Scheduled) → GroupsAreAimed → IsUnderWay catalog m → IsChoosing m → MaySchedule catalog m other → group_scheduled catalog m (Some other) ≡ first ∷ rest
    → is_some (part_at Dxe catalog first.module_number) ≡ true
first_known catalog m other first rest law way choosing may group =
    let known = subst (λ xs. Each (IsDriverOf catalog m.discovered) (numbers_of xs)) group ((law catalog m other choosing may).way way).queue_known in
    known.0.0

-- the laws by which a line leads to a driver
pub record LeadLaws : Type 0 where
  pub roots : NamesLeadToRoot
  pub few : FewDriversWait
  pub groups : GroupsAreAimed

number_next : (laws : LeadLaws) (catalog : Catalog) (m : DxeMachine) (names : List (List (Guid × ℕ))) (text : Spelled) (found : Option ℕ) (other : ℕ) (first : Scheduled) (rest : List Scheduled) → NamesNext Dxe names text found → IsWellFormed catalog
    → AreNames catalog (length catalog.modules) names → AreGuids catalog → IsUnderWay catalog m → IsChoosing m → IsRight text → MaySchedule catalog m other → group_scheduled catalog m (Some other) ≡ first ∷ rest → BeginsWithStart catalog first (left text)
    → found ≡ Some first.module_number
number_next laws catalog m names text found other first rest next well are guids way choosing right may group begins =
    let driver = first_known catalog m other first rest laws.groups way choosing may group in
    next right catalog are first.module_number (record {
      licence = first.licence;
      named = record { is_module = within (part_of Dxe) catalog.modules first.module_number driver; in_volume = refl; of_name = refl };
      readable = starts_readable catalog well guids first driver;
      next = (begins.more, begins.is);
    })

-- a module is named
leads_on : (laws : LeadLaws) (catalog : Catalog) (m : DxeMachine) (names : List (List (Guid × ℕ))) (text : Spelled) (found : Option ℕ) (number : ℕ) → found ≡ Some number → NamesNext Dxe names text found → IsWellFormed catalog
    → AreNames catalog (length catalog.modules) names → AreGuids catalog → IsUnderWay catalog m → IsChoosing m → IsRight text → LeadsTo catalog m (left text) (Some (root_of catalog m number))
leads_on laws catalog m names text found number is next well are guids way choosing right other first rest may group begins =
    let named = number_next laws catalog m names text found other first rest next well are guids way choosing right may group begins in
    let same : number ≡ first.module_number = one_number number first.module_number (sym is ∙ named) in
    let members = group_first catalog m other first rest group in
    let leads = laws.roots catalog m other first.module_number members.0 may members.1 in
    ap Some (ap (follows catalog m (length catalog.modules)) same ∙ leads.leads (length catalog.modules) (laws.few catalog m way).waiting)

-- the driver that a text names leads to the one whose group the text starts next, if it starts any
pub leading_by : (laws : LeadLaws) (catalog : Catalog) (m : DxeMachine) (names : List (List (Guid × ℕ))) (text : Spelled) (found : Option ℕ) → NamesNext Dxe names text found → IsWellFormed catalog
    → AreNames catalog (length catalog.modules) names → AreGuids catalog → IsUnderWay catalog m → IsChoosing m → IsRight text → Leading catalog m (λ root. LeadsTo catalog m (left text) (Some root)) found
leading_by laws catalog m names text found next well are guids way choosing right = record {
  some = λ number is may. leads_on laws catalog m names text found number is next well are guids way choosing right;
  none = λ never some_other some_may other first rest may group begins.
      let is = number_next laws catalog m names text found other first rest next well are guids way choosing right may group begins in
      let leads = leads_on laws catalog m names text found first.module_number is next well are guids way choosing right other first rest may group begins in
      let same : root_of catalog m first.module_number ≡ other = one_number (root_of catalog m first.module_number) other leads in
      absurd (never first.module_number is (subst (MaySchedule catalog m) (sym same) may));
}
