-- No two free steps of DXE print the same starts, unless they are the same.
use Rattle.std.proofs.Common.{◌≡◌, ℕ, List, [], ◌∷◌, ◌++◌, Option, Some, None, is_some, length, refl, sym, ap, ◌∙◌, subst, arith, option_and_then}
use Rattle.pi_base.specs.declared.phase.Phase.TheVariants.{Dxe}
use Rattle.mod_catalog.specs.declared.catalogue.Catalog.{Catalog}
use Rattle.mod_catalog.specs.Parts.{module_name, module_volume, part_at, part_of}
use Rattle.boot_model.specs.{declared.driver.Scheduled.Scheduled, declared.driver.ProtocolNote.ProtocolNote}
use Rattle.boot_model.specs.{declared.driver.ProtocolSweep.ProtocolSweep, DxeChoice.group_scheduled, DxeChoice.waiting}
use Rattle.boot_model.specs.DxeMachine.{DriverFrame, DxeMachine}
use Rattle.boot_model.specs.DxeStep.{DxeCase, DxeFires, DxeActs, DxeStarts, DxeStops, dxe_case_in, dxe_case_of, dxe_start_line, dxe_step, in_dxe_case, next_note}
use Rattle.boot_model.specs.FreeRun.{IsFreeInDxe, IsFreeStart, IsStarted, MaySchedule}
use Rattle.boot_model.proofs.ListFacts.{within}
use Rattle.boot_laws.specs.DxeAim.{IsChoosing, aimed, follows}
use Rattle.boot_laws.specs.DxeUnderWay.{IsUnderWay}
use Rattle.boot_laws.proofs.DxeGrowing.{Told, case_told, start_told}
use Rattle.boot_laws.proofs.{DxeWays.groups_are_aimed, DxeWays.started_is, GroupRoots.names_lead, Starts.dxe_prints}
use Rattle.recorded_boot.specs.{Named.HasNoTwins, Named.IsNamed, declared.order.line.Start.Start, OneStep.IsFreeDxeStep, OneStep.OneDxeStep}
use Rattle.recorded_boot.specs.Starts.{ComeFirst, module_start, starts}
use Rattle.recorded_boot.proofs.{Fronts.next_of_fronts, Fronts.starts_then, Modules.one_module}

-- what the first of a group adds to the starts
pub record Tells (catalog : Catalog) (fuel : ℕ) (m : DxeMachine) (root : ℕ) : Type 0 where
  pub number : ℕ
  pub rest : List Start
  pub is : starts (dxe_step catalog fuel (aimed catalog m root)).lines ≡ starts m.lines ++ module_start Dxe catalog number ∷ rest
  pub named : IsNamed catalog (module_volume catalog number) (module_name catalog number) number
  pub leads : follows catalog m (length (waiting catalog m)) number ≡ root

pub tells : (catalog : Catalog) (fuel : ℕ) (m : DxeMachine) (root : ℕ) → IsUnderWay catalog m → IsChoosing m → MaySchedule catalog m root → Tells catalog fuel m root
tells catalog fuel m root way choosing may =
    let aim = groups_are_aimed catalog m root choosing may in
    let first = aim.starts.first in
    let number = first.module_number in
    let prints = dxe_prints catalog fuel (aimed catalog m root) first aim.starts.queue (aim.way way) aim.starts.starts in
    let line = dxe_start_line catalog number first.licence in
    record {
      number = number;
      rest = starts prints.rest;
      is = ap starts prints.lines ∙ starts_then m.lines prints.rest line (module_start Dxe catalog number) refl;
      named = record { is_module = within (part_of Dxe) catalog.modules number (ap is_some prints.part_is); in_volume = refl; of_name = refl };
      leads = (names_lead catalog m root number aim.starts.others may aim.starts.numbers).leads (length (waiting catalog m)) (omega arith);
    }

-- drivers whose groups start as the same list begins are one
one_root : (catalog : Catalog) (fuel : ℕ) (m : DxeMachine) (a b : ℕ) (all : List Start) → HasNoTwins catalog → IsUnderWay catalog m → IsChoosing m → MaySchedule catalog m a → MaySchedule catalog m b
    → ComeFirst (starts (dxe_step catalog fuel (aimed catalog m a)).lines) all → ComeFirst (starts (dxe_step catalog fuel (aimed catalog m b)).lines) all → a ≡ b
one_root catalog fuel m a b all none way choosing may might first second =
    let s = tells catalog fuel m a way choosing may in
    let t = tells catalog fuel m b way choosing might in
    let one = (dxe_step catalog fuel (aimed catalog m a)).lines in
    let other = (dxe_step catalog fuel (aimed catalog m b)).lines in
    let same = next_of_fronts (starts m.lines) (starts one) (starts other) all (module_start Dxe catalog s.number) (module_start Dxe catalog t.number) s.rest t.rest s.is t.is first second in
    let first_is : IsNamed catalog (module_volume catalog t.number) (module_name catalog t.number) s.number = record {
      is_module = s.named.is_module;
      in_volume = ap (λ (x : Start). x.volume) same;
      of_name = ap (λ (x : Start). x.name) same;
    } in
    let number = one_module catalog (module_volume catalog t.number) (module_name catalog t.number) s.number t.number none first_is t.named in
    sym s.leads ∙ ap (follows catalog m (length (waiting catalog m))) number ∙ t.leads

-- a start is due only where no script runs
no_frames : (catalog : Catalog) (m : DxeMachine) (frames : List DriverFrame) (next : Scheduled) (queue : List Scheduled) → dxe_case_in catalog m frames ≡ DxeStarts next queue → frames ≡ []
no_frames catalog m [] next queue e = refl
no_frames catalog m (frame ∷ below) next queue e = by (option_and_then (next_note m) frame.sweep) e
  where
    by : (o : Option (ProtocolNote × ProtocolSweep)) → (elim o as (λ _. DxeCase) [ None ↦ DxeActs frame below | Some pair ↦ DxeFires pair.0 pair.1 frame below ]) ≡ DxeStarts next queue → frame ∷ below ≡ []
    by None e = cc
    by (Some pair) e = cc

pub one_step : OneDxeStep
one_step catalog fuel m one other all none going way a b first second = by (dxe_case_of catalog m) refl a b
  where
    started : (queue : List Scheduled) → m.scheduled ≡ queue → m.frames ≡ [] → IsFreeStart catalog m queue one → IsFreeStart catalog m queue other → one ≡ other
    started [] e frames a b =
        let choosing : IsChoosing m = record { going = going; frames = frames; scheduled = e } in
        let is = started_is catalog fuel m one _ frames a.2 in
        let was = started_is catalog fuel m other _ frames b.2 in
        let here = subst (λ (x : DxeMachine). ComeFirst (starts x.lines) all) is first in
        let there = subst (λ (x : DxeMachine). ComeFirst (starts x.lines) all) was second in
        is ∙ ap (λ root. dxe_step catalog fuel (aimed catalog m root)) (one_root catalog fuel m a.0 b.0 all none way choosing a.1 b.1 here there) ∙ sym was
    started (next ∷ queue) e frames a b = a ∙ sym b

    by : (case : DxeCase) → dxe_case_of catalog m ≡ case → IsFreeInDxe catalog fuel m case one → IsFreeInDxe catalog fuel m case other → one ≡ other
    by (DxeFires note sweep frame below) e a b = a ∙ sym b
    by (DxeActs frame below) e a b = a ∙ sym b
    by (DxeStarts next queue) e a b = started m.scheduled refl (no_frames catalog m m.frames next queue e) a b
    by DxeStops e a b = a ∙ sym b

-- a free step takes no line away
start_told_by : (catalog : Catalog) (m later : DxeMachine) (queue : List Scheduled) → IsStarted catalog m queue later → Told m.lines later.lines
start_told_by catalog m later [] h = absurd h
start_told_by catalog m later (next ∷ queue) h = subst (λ (x : DxeMachine). Told m.lines x.lines) (sym h) (start_told catalog m next queue (part_at Dxe catalog next.module_number))

pub step_told : (catalog : Catalog) (fuel : ℕ) (m later : DxeMachine) → IsFreeDxeStep catalog fuel m later → Told m.lines later.lines
step_told catalog fuel m later step = by (dxe_case_of catalog m) step
  where
    own : (case : DxeCase) → later ≡ in_dxe_case catalog fuel m case → Told m.lines later.lines
    own case is = subst (λ (x : DxeMachine). Told m.lines x.lines) (sym is) (case_told catalog fuel m case)

    queued : (scheduled : List Scheduled) → IsFreeStart catalog m scheduled later → Told m.lines later.lines
    queued [] h = start_told_by catalog m later (group_scheduled catalog m (Some h.0)) h.2
    queued (next ∷ queue) h = start_told_by catalog m later (next ∷ queue) h

    by : (case : DxeCase) → IsFreeInDxe catalog fuel m case later → Told m.lines later.lines
    by (DxeFires note sweep frame below) h = own (DxeFires note sweep frame below) h
    by (DxeActs frame below) h = own (DxeActs frame below) h
    by (DxeStarts next queue) h = queued m.scheduled h
    by DxeStops h = own DxeStops h
