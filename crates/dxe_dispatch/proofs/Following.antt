-- EDK2's queue follows a run.
use Rattle.std.proofs.Common.{◌≡◌, ℕ, ◌+◌, ◌-◌, Bool, true, false, cond, List, [], ◌∷◌, ◌++◌, length, drop, flat_map, Option, Some, None, Result, Ok, Err, ◌≤◌, refl, sym, ap, subst, ◌∙◌, append-nil, inl, inr, arith, ◌&&◌}
use Rattle.std.proofs.{Math.Seq.drop-append_seam, Math.Seq.drop-length, lemmas.Grind.flat_map-append}
use Rattle.mod_catalog.specs.declared.catalogue.Catalog.{Catalog}
use Rattle.boot_io.specs.declared.halt.Halt.{Halt}
use Rattle.boot_model.specs.{DriverLicence.numbers_of, DxeChoice.a_priori_drivers, DxeMachine.DriverFrame, DxeMachine.DxeMachine}
use Rattle.boot_model.specs.{DxeStep.dxe_step, Text.text_of}
use Rattle.boot_laws.specs.{declared.choice.Before.Before, DxeAim.GroupsAreAimed, Naming.Chooser, Naming.Rules}
use Rattle.boot_laws.specs.declared.choice.Reached.TheVariants as R
use Rattle.boot_trace.specs.Printing.{Texts}
use Rattle.boot_trace.proofs.Lines.{part_whole}
use Rattle.store_model.specs.StoreState.{StoreState}
use Rattle.dxe_core.specs.{Standing.DxeCore, Turn.Printed, Turn.PrintedPart}
use Rattle.boot_laws.proofs.DriverGrowth.{driver_steps_grow}
use Rattle.dxe_dispatch.specs.{declared.answer.Turn.Turn, Aim.is_free, Aim.may_be_next, Ends.IsNow, Turns.IsLeft, Turns.StartsNone}
use Rattle.dxe_dispatch.specs.declared.answer.Turn.TheVariants as T
use Rattle.dxe_dispatch.specs.Choices.{DriverChoice, KeepsPasses, LetsDrivers, NamesDriver, NamesDrivers, TurnsBy, aimed_at, root_of}
use Rattle.dxe_dispatch.specs.Queue.{IsSeen, Queue, owed}
use Rattle.dxe_dispatch.specs.PassList.{Follows, FollowsTurn, GetsVolumes, IsPassListOf, PassList, RefillsIdle, turn_kept}
use Rattle.dxe_dispatch.specs.Passes.{first_in, in_types, or_pass, pass, pass_of, queued_behind, refilled, refilled_over, told_in, told_in_dxe}
use Rattle.dxe_dispatch.proofs.{Chosen.within_less, Turning.on_ok}
use Rattle.dxe_dispatch.proofs.Targets.{Aimed, First, IsTarget, Own}

-- what is told is a count and a turn
abbrev telling : ℕ → Option ℕ → Before
telling starts turn = record { starts = starts; turn = turn }

turn_same : (wants wanted : Bool) (left queue : List ℕ) → wanted ≡ wants → (wants ≡ true → left ≡ queue) → cond wanted (first_in left) None ≡ cond wants (first_in queue) None
turn_same true wanted left queue is same = ap (λ b. cond b (first_in left) None) is ∙ ap first_in (same refl)
turn_same false wanted left queue is same = ap (λ b. cond b (first_in left) None) is

-- what is kept says what is told in the machine
pub told_so : {S : Type 0} (choice : DriverChoice S) (catalog : Catalog) (m : DxeMachine) (queue : List ℕ) (kept : PassList) (left : ℕ) → left ≡ length m.started
    → kept.wanted ≡ choice.by.rules.wants_turn → (choice.by.rules.wants_turn ≡ true → kept.left ≡ refilled catalog m queue) → telling (choice.in_pei + left) (turn_kept kept) ≡ told_in choice catalog m queue
told_so choice catalog m queue kept left counted wanted is =
    ap (λ n. telling (choice.in_pei + n) (turn_kept kept)) counted
    ∙ ap (telling (choice.in_pei + length m.started)) (turn_same choice.by.rules.wants_turn kept.wanted kept.left (refilled catalog m queue) wanted is)

-- the queue from which the dispatcher goes on
pub refilled_so : (catalog : Catalog) (wants : Bool) (m : DxeMachine) (list : List ℕ) (core : DxeCore) (queue : Queue) (old new : PassList) → m.frames ≡ core.frames → IsSeen catalog m queue core.services.order
    → RefillsIdle catalog core queue old new → IsPassListOf catalog wants m list old → IsPassListOf catalog wants m (refilled catalog m list) new
refilled_so catalog wants m list core queue old new frames seen refills is = by core.frames refl
  where
    some_frame : (frame : DriverFrame) (below : List DriverFrame) → frame ∷ below ≡ [] → ⊥
    some_frame frame below e = cc

    by : (fs : List DriverFrame) → core.frames ≡ fs → IsPassListOf catalog wants m (refilled catalog m list) new
    by [] e =
        let r = refills.0 e in
        let idle : or_pass list (pass catalog m) ≡ refilled catalog m list = ap (λ fs. refilled_over fs list (pass catalog m)) (sym (frames ∙ e)) in
        record {
          wanted = r.wanted ∙ is.wanted;
          drivers = λ w. r.drivers ∙ is.drivers w;
          left = λ w. r.left m seen (is.wanted ∙ w) ∙ ap (λ xs. or_pass xs (pass_of catalog m old.drivers)) (is.left w) ∙ ap (λ xs. or_pass list (pass_of catalog m xs)) (is.drivers w) ∙ idle;
        }
    by (frame ∷ below) e =
        let same = refills.1 (λ none. some_frame frame below (sym e ∙ none)) in
        let busy : list ≡ refilled catalog m list = ap (λ fs. refilled_over fs list (pass catalog m)) (sym (frames ∙ e)) in
        record {
          wanted = ap (λ (k : PassList). k.wanted) same ∙ is.wanted;
          drivers = λ w. ap (λ (k : PassList). k.drivers) same ∙ is.drivers w;
          left = λ w. ap (λ (k : PassList). k.left) same ∙ is.left w ∙ busy;
        }

-- the volumes behind those that there were
newest : (old more new : List ℕ) → new ≡ old ++ more → old ++ drop (length old) new ≡ new
newest old more new is = ap (λ xs. old ++ drop (length old) xs) is ∙ ap (λ xs. old ++ xs) (drop-append_seam old more) ∙ sym is

-- the machine behind a step, of which as much is said as the queue follows
pub record IsBehind (before later : DxeMachine) (count : ℕ) (volumes : List ℕ) : Type 0 where
  pub started : count ≡ length later.started - length before.started
  pub discovered : volumes ≡ drop (length before.discovered) later.discovered
  pub more : List ℕ
  pub grown : later.discovered ≡ before.discovered ++ more

-- the queue follows a step from the target
pub followed : (catalog : Catalog) (wants : Bool) (m target later : DxeMachine) (queue : List ℕ) (count : ℕ) (volumes : List ℕ) (old new : PassList) → target.discovered ≡ m.discovered → IsBehind target later count volumes
    → IsPassListOf catalog wants m queue old → Follows catalog count volumes old new → IsPassListOf catalog wants later (queued_behind catalog target later queue) new
followed catalog wants m target later queue count volumes old new same behind is (mid, left, gets) =
    let f = flat_map (in_types catalog) in
    let wanted : mid.wanted ≡ wants = left.wanted ∙ is.wanted in
    let all : m.discovered ++ volumes ≡ later.discovered =
    ap (λ xs. xs ++ volumes) (sym same) ∙ ap (λ xs. target.discovered ++ xs) behind.discovered ∙ newest target.discovered behind.more later.discovered behind.grown in
    record {
      wanted = gets.wanted ∙ wanted;
      drivers = λ w. gets.drivers (wanted ∙ w) ∙ ap (λ xs. xs ++ f volumes) (left.drivers ∙ is.drivers w) ∙ sym (flat_map-append (in_types catalog) m.discovered volumes) ∙ ap f all;
      left = λ w. gets.left (wanted ∙ w) ∙ ap (λ xs. xs ++ numbers_of (a_priori_drivers catalog volumes)) (left.left ∙ ap (drop count) (is.left w))
          ∙ ap (λ n. drop n queue ++ numbers_of (a_priori_drivers catalog volumes)) behind.started
          ∙ ap (λ xs. drop (length later.started - length target.started) queue ++ numbers_of (a_priori_drivers catalog xs)) behind.discovered;
    }

-- what is aimed at is scheduled, and all else is as before
either_same : {A : Type 0} (f : DxeMachine → A) (b : Bool) (one m : DxeMachine) → f one ≡ f m → f (cond b one m) ≡ f m
either_same f true one m e = e
either_same f false one m e = refl

pub aim_keeps : {A : Type 0} (f : DxeMachine → A) (catalog : Catalog) (m : DxeMachine) (named : Option ℕ) → ((scheduled : _) → f (record m { scheduled = scheduled }) ≡ f m) → f (aimed_at catalog m named) ≡ f m
aim_keeps f catalog m None same = refl
aim_keeps f catalog m (Some number) same = either_same f (is_free m.scheduled && may_be_next catalog m (root_of catalog m number)) _ m (same _)

-- at the opening the a priori drivers are in the queue
pub opening_passes : (catalog : Catalog) (wants : Bool) (opening : DxeMachine) (volumes : List ℕ) (old new : PassList) → old ≡ record { wanted = wants; drivers = []; left = [] } → opening.scheduled ≡ a_priori_drivers catalog volumes
    → volumes ≡ opening.discovered → GetsVolumes catalog volumes old new → IsPassListOf catalog wants opening (numbers_of opening.scheduled) new
opening_passes catalog wants opening volumes old new is scheduled are gets =
    let wanted : old.wanted ≡ wants = ap (λ (k : PassList). k.wanted) is in
    let f = flat_map (in_types catalog) in
    record {
      wanted = gets.wanted ∙ wanted;
      drivers = λ w. gets.drivers (wanted ∙ w) ∙ ap (λ (k : PassList). k.drivers ++ f volumes) is ∙ ap f are;
      left = λ w. gets.left (wanted ∙ w) ∙ ap (λ (k : PassList). k.left ++ numbers_of (a_priori_drivers catalog volumes)) is ∙ ap numbers_of (sym scheduled);
    }

or_same : (queue next : List ℕ) → or_pass (or_pass queue next) next ≡ or_pass queue next
or_same [] [] = refl
or_same [] (n ∷ ns) = refl
or_same (q ∷ qs) next = refl

-- where no driver starts the machine was not aimed at one
pub not_aimed_at : (catalog : Catalog) (m target : DxeMachine) (Leads : ℕ → Type 0) → GroupsAreAimed → IsTarget catalog m Leads target → StartsNone catalog target → target ≡ m
not_aimed_at catalog m target Leads groups (Own own) none = refl
not_aimed_at catalog m target Leads groups (First root found c) none = refl
not_aimed_at catalog m target Leads groups (Aimed root c) none =
    let starts = (groups catalog m root c.choosing c.may).starts in
    absurd (none starts.first.module_number (record { next = starts.first; queue = starts.queue; starts = starts.starts; is = refl }))

-- at an end the queue is the one from which the last turn was taken
pub end_queue : (catalog : Catalog) (m target end : DxeMachine) (queue : List ℕ) → target ≡ m → end ≡ record target { lines = end.lines; ended = end.ended }
    → refilled catalog end (queued_behind catalog target end (refilled catalog m queue)) ≡ refilled catalog m queue
end_queue catalog m target end queue same still =
    let from : List ℕ = refilled catalog m queue in
    let over : end ≡ record m { lines = end.lines; ended = end.ended } = still ∙ ap (λ (x : DxeMachine). record x { lines = end.lines; ended = end.ended }) same in
    let started : length end.started - length target.started ≡ 0 = let e : length end.started ≡ length target.started = ap (λ (x : DxeMachine). length x.started) still in omega (arith, e) in
    let volumes : drop (length target.discovered) end.discovered ≡ [] = ap (λ (x : DxeMachine). drop (length target.discovered) x.discovered) still ∙ drop-length target.discovered in
    let queued : queued_behind catalog target end from ≡ from =
    ap (λ n. drop n from ++ numbers_of (a_priori_drivers catalog (drop (length target.discovered) end.discovered))) started
    ∙ ap (λ xs. from ++ numbers_of (a_priori_drivers catalog xs)) volumes ∙ append-nil from in
    let frames : end.frames ≡ m.frames = ap (λ (x : DxeMachine). x.frames) over in
    let next : pass catalog end ≡ pass catalog m = ap (pass catalog) over in
    ap (refilled catalog end) queued ∙ ap (λ fs. refilled_over fs from (pass catalog end)) frames ∙ ap (refilled_over m.frames from) next ∙ twice m.frames queue (pass catalog m)
  where
    twice : (frames : List DriverFrame) (queue next : List ℕ) → refilled_over frames (refilled_over frames queue next) next ≡ refilled_over frames queue next
    twice [] queue next = or_same queue next
    twice (frame ∷ below) queue next = refl

-- all of what was printed is a part of it
all_printed : (m later : DxeMachine) (t : Texts) → Printed m later t → PrintedPart m later t
all_printed m later t printed = record { told = printed.told; lines = printed.lines; text = part_whole t.old t.new (text_of printed.told) printed.text }

-- a turn was taken, and then the queue could not follow it
pub given_up : (Names : DxeMachine → Option ℕ → Type 0) (Lets : DxeMachine → ℕ → Bool) (Now Left : DxeMachine → Type 0) (catalog : Catalog) (fuel : ℕ) (m : DxeMachine) (t : Texts) (before now : ℕ) (turn : Turn) (halt : Halt)
    → TurnsBy Names Lets Now Left catalog fuel m t before now (Ok turn) → TurnsBy Names Lets Now Left catalog fuel m t before now (Err halt)
given_up Names Lets Now Left catalog fuel m t before now (T.Took step) halt by =
    record { target = by.target; aimed = by.aimed; turned = inr (by.turned.0.passes, all_printed by.target (dxe_step catalog fuel by.target) t by.turned.0.printed); few = tt }
given_up Names Lets Now Left catalog fuel m t before now (T.Reached (R.End how)) halt by =
    record { target = by.target; aimed = by.aimed; turned = inr (by.turned.passes, all_printed by.target (dxe_step catalog fuel by.target) t by.turned.printed); few = tt }
given_up Names Lets Now Left catalog fuel m t before now (T.Reached (R.Barred number)) halt by = record { target = by.target; aimed = by.aimed; turned = inl by.turned.text; few = tt }

-- what is kept behind a turn from a machine that is told so
pub keeps_passes : {M : Type 0} (Names : DxeMachine → Option ℕ → Type 0) (Lets : DxeMachine → ℕ → Bool) (stands : M → StoreState → Type 0) (store : M) (Left : DxeMachine → Type 0) (catalog : Catalog) (fuel : ℕ) (m : DxeMachine) (t : Texts) (before now : ℕ) (turn : Turn)
    (wants : Bool) (queue : List ℕ) (later : DxeCore) (grown : Queue) (old new : PassList) (count : ℕ) (volumes : List ℕ) → count ≡ grown.left - length m.started → volumes ≡ drop (length m.discovered) later.services.order.volumes
    → IsPassListOf catalog wants m (refilled catalog m queue) old → FollowsTurn catalog count volumes turn old new
    → (by : TurnsBy Names Lets (IsNow stands store catalog later grown) Left catalog fuel m t before now (Ok turn)) → KeepsPasses wants catalog fuel m queue new by.target (Ok turn)
keeps_passes Names Lets stands store Left catalog fuel m t before now (T.Took step) wants queue later grown old new count volumes counted known is follows by =
    let target = by.target in
    let next = dxe_step catalog fuel target in
    let turned = by.turned.0.now in
    let started : target.started ≡ m.started = ap (λ (x : DxeMachine). x.started) by.aimed.is ∙ aim_keeps (λ (x : DxeMachine). x.started) catalog m by.aimed.named (λ s. refl) in
    let discovered : target.discovered ≡ m.discovered = ap (λ (x : DxeMachine). x.discovered) by.aimed.is ∙ aim_keeps (λ (x : DxeMachine). x.discovered) catalog m by.aimed.named (λ s. refl) in
    let behind : IsBehind target next count volumes = record {
      started = counted ∙ ap (λ n. n - length m.started) turned.queue.left ∙ ap (λ xs. length next.started - length xs) (sym started);
      discovered = known ∙ ap (λ xs. drop (length xs) later.services.order.volumes) (sym discovered) ∙ ap (drop (length target.discovered)) turned.machine.core.services.order.volumes_are;
      more = (driver_steps_grow catalog fuel target).discovered.0;
      grown = (driver_steps_grow catalog fuel target).discovered.1;
    } in
    followed catalog wants m target next (refilled catalog m queue) count volumes old new discovered behind is follows
keeps_passes Names Lets stands store Left catalog fuel m t before now (T.Reached reached) wants queue later grown old new count volumes counted known is follows by =
    subst (IsPassListOf catalog wants m (refilled catalog m queue)) (sym follows) is

-- the same turn, of a choice that is told so, and from where more had to be evaluated
pub turn_from : {S : Type 0} (by_choice : Chooser S) (before told : Before) (Now Left : DxeMachine → Type 0) (catalog : Catalog) (fuel : ℕ) (m : DxeMachine) (first : S) (t : Texts) (less more now : ℕ) (result : Result Turn Halt) → before ≡ told → less ≤ more
    → TurnsBy (NamesDriver by_choice before first) (λ m number. by_choice.rules.lets_in_dxe before number) Now Left catalog fuel m t less now result
    → TurnsBy (NamesDriver by_choice told first) (λ m number. by_choice.rules.lets_in_dxe told number) Now Left catalog fuel m t more now result
turn_from by_choice before told Now Left catalog fuel m first t less more now result is fewer by =
    let P : Before → Type 0 = λ b. TurnsBy (NamesDriver by_choice b first) (λ m number. by_choice.rules.lets_in_dxe b number) Now Left catalog fuel m t more now result in
    let here : P before = record { target = by.target; aimed = by.aimed; turned = by.turned; few = on_ok result (within_less catalog fuel by.target more less now fewer) by.few } in
    subst P is here

-- a turn was given up, whatever the cause
pub other_halt : (Names : DxeMachine → Option ℕ → Type 0) (Lets : DxeMachine → ℕ → Bool) (Now Left : DxeMachine → Type 0) (catalog : Catalog) (fuel : ℕ) (m : DxeMachine) (t : Texts) (before now : ℕ) (halt other : Halt)
    → TurnsBy Names Lets Now Left catalog fuel m t before now (Err halt) → TurnsBy Names Lets Now Left catalog fuel m t before now (Err other)
other_halt Names Lets Now Left catalog fuel m t before now halt other by = record { target = by.target; aimed = by.aimed; turned = by.turned; few = tt }

-- the same queue
pub turn_with : {M : Type 0} (Names : DxeMachine → Option ℕ → Type 0) (Lets : DxeMachine → ℕ → Bool) (stands : M → StoreState → Type 0) (store : M) (catalog : Catalog) (fuel : ℕ) (core : DxeCore) (m : DxeMachine) (t : Texts) (before steps : ℕ) (result : Result Turn Halt) (queue same : Queue) → same ≡ queue
    → TurnsBy Names Lets (IsNow stands store catalog core queue) (IsLeft stands store catalog core queue) catalog fuel m t before (steps + owed queue) result
    → TurnsBy Names Lets (IsNow stands store catalog core same) (IsLeft stands store catalog core same) catalog fuel m t before (steps + owed same) result
turn_with Names Lets stands store catalog fuel core m t before steps result queue same is by =
    let P : Queue → Type 0 = λ q. TurnsBy Names Lets (IsNow stands store catalog core q) (IsLeft stands store catalog core q) catalog fuel m t before (steps + owed q) result in
    subst P (sym is) by

-- a choice, by what it is made of
abbrev pub choice_of : {S : Type 0} → Rules S → (S → Option (List ℕ)) → (S → ℕ) → ℕ → DriverChoice S
choice_of rules text faults in_pei = record { by = record { rules = rules; text = text; faults = faults }; in_pei = in_pei }

-- what it may name along a run, and what it lets
abbrev pub names_along : {S : Type 0} → DriverChoice S → Catalog → ℕ → DxeMachine → S → List DxeMachine → DxeMachine → Option ℕ → Type 0
names_along choice catalog fuel opening first = NamesDrivers choice.by (told_in_dxe choice catalog fuel opening) first

abbrev pub lets_along : {S : Type 0} → DriverChoice S → Catalog → ℕ → DxeMachine → List DxeMachine → DxeMachine → ℕ → Bool
lets_along choice catalog fuel opening = LetsDrivers choice.by.rules (told_in_dxe choice catalog fuel opening)
