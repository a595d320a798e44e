-- No two free steps of PEI print the same starts, unless they are the same.
use Rattle.std.proofs.Common.{◌≡◌, ℕ, List, ◌∷◌, ◌++◌, refl, sym, ap, ◌∙◌, subst}
use Rattle.pi_base.specs.declared.phase.Phase.TheVariants.{Pei}
use Rattle.mod_catalog.specs.declared.catalogue.Catalog.{Catalog}
use Rattle.mod_catalog.specs.Parts.{module_name, module_volume, part_of}
use Rattle.boot_model.specs.{Eligible.licence_at, FreeRun.IsFreeIn, FreeRun.MayStart, PeiMachine.PeiMachine}
use Rattle.boot_model.specs.PeiStep.{PeiCase, Fires, Acts, Moves, Pops, Starts, Stops, case_of, start_line, started}
use Rattle.boot_model.proofs.ListFacts.{within}
use Rattle.boot_laws.proofs.{PeiWays.may_has_part, Starts.pei_prints}
use Rattle.recorded_boot.specs.{Named.HasNoTwins, Named.IsNamed, declared.order.line.Start.Start, OneStep.OnePeiStep}
use Rattle.recorded_boot.specs.Starts.{ComeFirst, module_start, starts}
use Rattle.recorded_boot.proofs.{Fronts.next_of_fronts, Fronts.starts_then, Modules.one_module}

-- what a start adds to the starts
pub record Tells (catalog : Catalog) (m : PeiMachine) (number : ℕ) : Type 0 where
  pub rest : List Start
  pub is : starts (started catalog m number).lines ≡ starts m.lines ++ module_start Pei catalog number ∷ rest
  pub named : IsNamed catalog (module_volume catalog number) (module_name catalog number) number

pub tells : (catalog : Catalog) (m : PeiMachine) (number : ℕ) → MayStart catalog m number → Tells catalog m number
tells catalog m number may =
    let prints = pei_prints catalog m number may in
    let line = start_line catalog m number (licence_at m number prints.part) in
    record {
      rest = starts prints.rest;
      is = ap starts prints.lines ∙ starts_then m.lines prints.rest line (module_start Pei catalog number) refl;
      named = record { is_module = within (part_of Pei) catalog.modules number (may_has_part catalog m number may); in_volume = refl; of_name = refl };
    }

-- PEIMs that start as the same list begins are one
one_started : (catalog : Catalog) (m : PeiMachine) (a b : ℕ) (all : List Start) → HasNoTwins catalog → MayStart catalog m a → MayStart catalog m b
    → ComeFirst (starts (started catalog m a).lines) all → ComeFirst (starts (started catalog m b).lines) all → a ≡ b
one_started catalog m a b all none may might first second =
    let s = tells catalog m a may in
    let t = tells catalog m b might in
    let same = next_of_fronts (starts m.lines) (starts (started catalog m a).lines) (starts (started catalog m b).lines) all (module_start Pei catalog a) (module_start Pei catalog b) s.rest t.rest s.is t.is first second in
    let first_is : IsNamed catalog (module_volume catalog b) (module_name catalog b) a = record {
      is_module = s.named.is_module;
      in_volume = ap (λ (x : Start). x.volume) same;
      of_name = ap (λ (x : Start). x.name) same;
    } in
    one_module catalog (module_volume catalog b) (module_name catalog b) a b none first_is t.named

pub one_step : OnePeiStep
one_step catalog fuel m one other all none a b first second = by (case_of catalog m) a b
  where
    by : (case : PeiCase) → IsFreeIn catalog fuel m case one → IsFreeIn catalog fuel m case other → one ≡ other
    by (Fires firing sweep) a b = a ∙ sym b
    by (Acts frame below) a b = a ∙ sym b
    by (Moves new) a b = a ∙ sym b
    by (Pops firing new) a b = a ∙ sym b
    by (Starts number) a b =
        let is : ComeFirst (starts (started catalog m a.0).lines) all = subst (λ (x : PeiMachine). ComeFirst (starts x.lines) all) a.2 first in
        let was : ComeFirst (starts (started catalog m b.0).lines) all = subst (λ (x : PeiMachine). ComeFirst (starts x.lines) all) b.2 second in
        a.2 ∙ ap (started catalog m) (one_started catalog m a.0 b.0 all none a.1 b.1 is was) ∙ sym b.2
    by Stops a b = a ∙ sym b
