-- The order of EDK2's dispatchers leads to one boot.
use Rattle.std.proofs.Common.{◌≡◌, ℕ, true≢false, List, ◌++◌, Option, Some, None, sym, ap, ◌∙◌, subst, inl, inr, option_map}
use Rattle.pi_base.specs.declared.phase.Phase.TheVariants.{Dxe}
use Rattle.mod_catalog.specs.{declared.catalogue.Catalog.Catalog, WellFormed.IsWellFormed}
use Rattle.store_model.specs.{HandleState.HandleState, StoreState.Board, StoreState.StoreState}
use Rattle.boot_model.specs.{declared.line.Line.Line, declared.line.RunEnd.RunEnd, declared.phase_end.DxeEnd.DxeEnd}
use Rattle.boot_model.specs.{declared.phase_end.PeiEnd.PeiEnd, BootRun.dxe_result, DxeMachine.DxeMachine, PeiMachine.PeiMachine}
use Rattle.boot_model.specs.declared.phase_end.PeiEnd.TheVariants.{Handoff, NoMemory, NoIpl, Spent, Deep}
use Rattle.boot_model.specs.Text.{text_of}
use Rattle.boot_core.specs.{Choices.NameOne, Closing.closing}
use Rattle.boot_core.specs.ByChoice.{BootBy, EndsAfter, EndsInDxe, before_by}
use Rattle.boot_core.specs.{declared.handing_on.HandOff.HandOff, HandOff.HandsOn}
use Rattle.boot_core.proofs.OneRun.{Boot, DxeStands, RunLaws, Runs, Stands, came, dxe_barred, dxe_over, one_dxe_run, one_run, over}
use Rattle.recorded_boot.specs.{declared.passes.Passed.Passed, declared.passes.Turn.Turn, OneBoot.put, OnePass.OnePass, Starts.module_start}
use Rattle.recorded_boot.specs.declared.passes.Passed.TheVariants.{Ended, No}
use Rattle.recorded_boot.specs.HandOff.{OneHandOff}
use Rattle.recorded_boot.proofs.Handed.{has_ended_so, one_handed}
use Rattle.recorded_boot.specs.Passes.{HasEndedShort, IsLeft, IsTurnOf, PassesTo, is_short, lacks_in, pass_choices, turn_at_end, turn_behind}

-- its choices name one module at most
name_one : (catalog : Catalog) (fuel : ℕ) → NameOne (pass_choices catalog fuel)
name_one catalog fuel = record { peims = λ m one other p q. p ∙ sym q; drivers = λ pei earlier m one other p q. p ∙ sym q }

-- a catalogue that is booted so
record Pass : Type 0 where
  board : Board
  catalog : Catalog
  fuel : ℕ
  well : IsWellFormed catalog
  laws : RunLaws

abbrev boot_of : Pass → Boot
boot_of p = record { by = pass_choices p.catalog p.fuel; board = p.board; catalog = p.catalog; fuel = p.fuel; well = p.well; names = name_one p.catalog p.fuel; laws = p.laws }

abbrev Boots : Pass → Type 0
Boots p = BootBy (pass_choices p.catalog p.fuel) p.board p.catalog p.fuel

abbrev After : Pass → PeiMachine → PeiEnd → List Line → HandleState → RunEnd → Type 0
After p pei how lines handles end = EndsAfter (pass_choices p.catalog p.fuel) p.catalog p.fuel pei how lines handles end

-- what a boot leaves at its end
record AtEnd : Type 0 where
  lines : List Line
  store : StoreState
  handles : HandleState
  result : RunEnd
  turn : Option ℕ

abbrev whole : PeiMachine → List Line → HandleState → RunEnd → Option ℕ → AtEnd
whole pei lines handles end turn = record { lines = lines ++ closing pei.store handles end; store = pei.store; handles = handles; result = end; turn = turn }

abbrev turn_after : (p : Pass) (pei : PeiMachine) (how : PeiEnd) (lines : List Line) (handles : HandleState) (end : RunEnd) → After p pei how lines handles end → Option ℕ
turn_after p pei how lines handles end ends =
    (before_by (record { by = pass_choices p.catalog p.fuel; catalog = p.catalog; fuel = p.fuel; pei = pei; lines = lines; handles = handles; result = end }) how ends).turn

abbrev at_end : (p : Pass) → Boots p → AtEnd
at_end p boot = whole boot.pei boot.lines boot.handles boot.result (turn_after p boot.pei boot.how boot.lines boot.handles boot.result boot.ends)

-- the same by other words
same_whole : (pei : PeiMachine) (a b : List Line) (h k : HandleState) (e f : RunEnd) (turn : Option ℕ) → a ≡ b → h ≡ k → e ≡ f → whole pei a h e turn ≡ whole pei b k f turn
same_whole pei a b h k e f turn x y z = ap (λ l. whole pei l h e turn) x ∙ ap (λ l. whole pei b l e turn) y ∙ ap (λ l. whole pei b k l turn) z

one_how : (a b : DxeEnd) → Some a ≡ Some b → a ≡ b
one_how a b e = cc

one_pei_how : (a b : PeiEnd) → Some a ≡ Some b → a ≡ b
one_pei_how a b e = cc

-- what a DXE leaves, by the machines from which its steps were taken
abbrev left_in_dxe : Pass → PeiMachine → List DxeMachine → DxeEnd → AtEnd
left_in_dxe p pei earlier how =
    whole pei (pei.lines ++ (came (boot_of p) pei earlier).lines) (came (boot_of p) pei earlier).handles (dxe_result how) (turn_behind p.catalog p.fuel pei earlier)

dxe_leaves : (p : Pass) (pei : PeiMachine) (lines : List Line) (handles : HandleState) (end : RunEnd) → (ends : EndsInDxe (pass_choices p.catalog p.fuel) p.catalog p.fuel pei lines handles end)
    → whole pei lines handles end (turn_behind p.catalog p.fuel pei ends.comes.earlier) ≡ left_in_dxe p pei ends.comes.earlier ends.how
dxe_leaves p pei lines handles end ends =
    let m = came (boot_of p) pei ends.comes.earlier in
    same_whole pei lines (pei.lines ++ m.lines) handles m.handles end (dxe_result ends.how) (turn_behind p.catalog p.fuel pei ends.comes.earlier)
    (ends.lines_are ∙ ap (λ (x : DxeMachine). pei.lines ++ x.lines) ends.comes.is) (ends.handles_are ∙ ap (λ (x : DxeMachine). x.handles) ends.comes.is) ends.end_is

has_ended : (p : Pass) (pei : PeiMachine) (lines : List Line) (handles : HandleState) (end : RunEnd) → (ends : EndsInDxe (pass_choices p.catalog p.fuel) p.catalog p.fuel pei lines handles end) → (came (boot_of p) pei ends.comes.earlier).ended ≡ Some ends.how
has_ended p pei lines handles end ends = ap (λ (x : DxeMachine). x.ended) (sym ends.comes.is) ∙ ends.ended

-- behind one machine of PEI
two_in_dxe : (p : Pass) (pei : PeiMachine) (a b : List Line) (h k : HandleState) (e f : RunEnd) → (x : EndsInDxe (pass_choices p.catalog p.fuel) p.catalog p.fuel pei a h e) (y : EndsInDxe (pass_choices p.catalog p.fuel) p.catalog p.fuel pei b k f)
    → whole pei a h e (turn_behind p.catalog p.fuel pei x.comes.earlier) ≡ whole pei b k f (turn_behind p.catalog p.fuel pei y.comes.earlier)
two_in_dxe p pei a b h k e f x y =
    let here = has_ended p pei a h e x in
    let there = has_ended p pei b k f y in
    let same : x.comes.earlier ≡ y.comes.earlier = one_dxe_run (boot_of p) pei x.comes.earlier y.comes.earlier x.comes.run (dxe_over x.how here) y.comes.run (dxe_over y.how there) in
    let how : x.how ≡ y.how = one_how x.how y.how (sym here ∙ ap (λ xs. (came (boot_of p) pei xs).ended) same ∙ there) in
    dxe_leaves p pei a h e x ∙ ap (λ xs. left_in_dxe p pei xs x.how) same ∙ ap (left_in_dxe p pei y.comes.earlier) how ∙ sym (dxe_leaves p pei b k f y)

two_after : (p : Pass) (pei : PeiMachine) (how : PeiEnd) (a b : List Line) (h k : HandleState) (e f : RunEnd) → (x : After p pei how a h e) (y : After p pei how b k f)
    → whole pei a h e (turn_after p pei how a h e x) ≡ whole pei b k f (turn_after p pei how b k f y)
two_after p pei Handoff a b h k e f x y = two_in_dxe p pei a b h k e f x y
two_after p pei NoMemory a b h k e f x y = same_whole pei a b h k e f None (x.lines_are ∙ sym y.lines_are) (x.handles_are ∙ sym y.handles_are) (x.end_is ∙ sym y.end_is)
two_after p pei NoIpl a b h k e f x y = same_whole pei a b h k e f None (x.lines_are ∙ sym y.lines_are) (x.handles_are ∙ sym y.handles_are) (x.end_is ∙ sym y.end_is)
two_after p pei Spent a b h k e f x y = same_whole pei a b h k e f None (x.lines_are ∙ sym y.lines_are) (x.handles_are ∙ sym y.handles_are) (x.end_is ∙ sym y.end_is)
two_after p pei Deep a b h k e f x y = same_whole pei a b h k e f None (x.lines_are ∙ sym y.lines_are) (x.handles_are ∙ sym y.handles_are) (x.end_is ∙ sym y.end_is)

-- two boots leave the same
one_pei : (p : Pass) (x y : Boots p) → x.pei ≡ y.pei
one_pei p x y = (one_run (boot_of p) x.comes.earlier y.comes.earlier x.pei y.pei x.comes.run (over x.how x.ended) y.comes.run (over y.how y.ended)).1

-- what is left behind a machine of PEI that has ended
abbrev Leaves : (p : Pass) → AtEnd → PeiMachine → PeiEnd → Type 0
Leaves p left pei how = (a : List Line) (h : HandleState) (e : RunEnd) (x : After p pei how a h e) → whole pei a h e (turn_after p pei how a h e x) ≡ left

two_boots : (p : Pass) (x y : Boots p) → at_end p x ≡ at_end p y
two_boots p x y =
    let left = at_end p y in
    let how : y.how ≡ x.how = one_pei_how y.how x.how (sym y.ended ∙ ap (λ (m : PeiMachine). m.ended) (sym (one_pei p x y)) ∙ x.ended) in
    let here : Leaves p left y.pei y.how = λ a h e z. two_after p y.pei y.how a y.lines h y.handles e y.result z y.ends in
    let there : Leaves p left x.pei x.how = subst (λ m. Leaves p left m x.how) (sym (one_pei p x y)) (subst (Leaves p left y.pei) how here) in
    there x.lines x.handles x.result x.ends

-- it is one turn
turn_of : Catalog → StoreState → HandleState → Option ℕ → Turn
turn_of catalog s h number = record { start = option_map (module_start Dxe catalog) number; lacks = lacks_in catalog s h number }

turn_is : (catalog : Catalog) (s : StoreState) (h : HandleState) (number : Option ℕ) (turn : Turn) → IsTurnOf catalog s h number turn → turn ≡ turn_of catalog s h number
unfolding turn_of
turn_is catalog s h number turn is =
    ap (λ x. record { start = x; lacks = turn.lacks }) is.start_is ∙ ap (λ x. record { start = option_map (module_start Dxe catalog) number; lacks = x }) is.lacks_are

abbrev Left : Pass → List ℕ → Turn → Type 0
Left p text turn = IsLeft p.board p.catalog p.fuel (put text) turn

left_stands : (p : Pass) (text : List ℕ) (turn : Turn) → (x : Left p text turn) → DxeStands (boot_of p) x.pei x.behind.earlier (came (boot_of p) x.pei x.behind.earlier)
left_stands p text turn x = subst (DxeStands (boot_of p) x.pei x.behind.earlier) x.behind.is (dxe_barred x.number x.due x.other)

-- a boot that has come to its end was not left
ended_is_not_left : (p : Pass) (x : Boots p) (text : List ℕ) (turn : Turn) → Left p text turn → ⊥
ended_is_not_left p x text turn y = stage x.how (one_pei_how x.how Handoff (sym x.ended ∙ ap (λ (m : PeiMachine). m.ended) same ∙ y.handed)) x.ends
  where
    same : x.pei ≡ y.pei
    same = (one_run (boot_of p) x.comes.earlier y.comes.earlier x.pei y.pei x.comes.run (over x.how x.ended) y.comes.run (over Handoff y.handed)).1

    in_dxe : EndsInDxe (pass_choices p.catalog p.fuel) p.catalog p.fuel y.pei x.lines x.handles x.result → ⊥
    in_dxe ends =
        let over = has_ended p y.pei x.lines x.handles x.result ends in
        let run = one_dxe_run (boot_of p) y.pei ends.comes.earlier y.behind.earlier ends.comes.run (dxe_over ends.how over) y.behind.run (left_stands p text turn y) in
        let gone : None ≡ Some ends.how = sym y.running ∙ ap (λ (m : DxeMachine). m.ended) y.behind.is ∙ ap (λ xs. (came (boot_of p) y.pei xs).ended) (sym run) ∙ over in
        cc

    stage : (how : PeiEnd) → how ≡ Handoff → After p x.pei how x.lines x.handles x.result → ⊥
    stage Handoff is ends = in_dxe (subst (λ m. EndsInDxe (pass_choices p.catalog p.fuel) p.catalog p.fuel m x.lines x.handles x.result) same ends)
    stage NoMemory is ends = cc
    stage NoIpl is ends = cc
    stage Spent is ends = cc
    stage Deep is ends = cc

-- two that were left
two_left : (p : Pass) (text told : List ℕ) (turn other : Turn) → Left p text turn → Left p told other → (turn ≡ other) × (text ≡ told)
two_left p text told turn other x y =
    let same : x.pei ≡ y.pei = (one_run (boot_of p) x.comes.earlier y.comes.earlier x.pei y.pei x.comes.run (over Handoff x.handed) y.comes.run (over Handoff y.handed)).1 in
    let over = x.behind.earlier in
    let run : Runs (boot_of p) y.pei over = subst (λ m. Runs (boot_of p) m over) same x.behind.run in
    let stands : DxeStands (boot_of p) y.pei over (came (boot_of p) y.pei over) = subst (λ m. DxeStands (boot_of p) m over (came (boot_of p) m over)) same (left_stands p text turn x) in
    let way : over ≡ y.behind.earlier = one_dxe_run (boot_of p) y.pei over y.behind.earlier run stands y.behind.run (left_stands p told other y) in
    let Turns : PeiMachine → List DxeMachine → DxeMachine → Turn = λ m xs d. turn_of p.catalog m.store d.handles (turn_behind p.catalog p.fuel m xs) in
    let Texts : PeiMachine → DxeMachine → List ℕ = λ m d. text_of (m.lines ++ d.lines) in
    let here : turn ≡ Turns x.pei over (came (boot_of p) x.pei over) = turn_is p.catalog x.pei.store x.dxe.handles (turn_behind p.catalog p.fuel x.pei over) turn x.is ∙ ap (Turns x.pei over) x.behind.is in
    let there : other ≡ Turns y.pei y.behind.earlier (came (boot_of p) y.pei y.behind.earlier) =
    turn_is p.catalog y.pei.store y.dxe.handles (turn_behind p.catalog p.fuel y.pei y.behind.earlier) other y.is ∙ ap (Turns y.pei y.behind.earlier) y.behind.is in
    let said : text ≡ Texts x.pei (came (boot_of p) x.pei over) = x.text ∙ ap (Texts x.pei) x.behind.is in
    let says : told ≡ Texts y.pei (came (boot_of p) y.pei y.behind.earlier) = y.text ∙ ap (Texts y.pei) y.behind.is in (
      here ∙ ap (λ m. Turns m over (came (boot_of p) m over)) same ∙ ap (λ xs. Turns y.pei xs (came (boot_of p) y.pei xs)) way ∙ sym there,
      said ∙ ap (λ m. Texts m (came (boot_of p) m over)) same ∙ ap (λ xs. Texts y.pei (came (boot_of p) y.pei xs)) way ∙ sym says,
    )

-- two that have ended, with the turn that was left
short_turn : (p : Pass) (text : List ℕ) (turn : Turn) → (x : HasEndedShort p.board p.catalog p.fuel (put text) turn) → turn ≡ turn_of p.catalog (at_end p x.ended.boot).store (at_end p x.ended.boot).handles (at_end p x.ended.boot).turn
short_turn p text turn x = turn_is p.catalog x.ended.boot.pei.store x.ended.boot.handles (turn_at_end x.ended.boot) turn x.is

two_short : (p : Pass) (text told : List ℕ) (turn other : Turn) → HasEndedShort p.board p.catalog p.fuel (put text) turn → HasEndedShort p.board p.catalog p.fuel (put told) other → (turn ≡ other) × (text ≡ told)
two_short p text told turn other x y =
    let same = two_boots p x.ended.boot y.ended.boot in (
      short_turn p text turn x ∙ ap (λ (a : AtEnd). turn_of p.catalog a.store a.handles a.turn) same ∙ sym (short_turn p told other y),
      x.ended.text ∙ ap (λ (a : AtEnd). text_of a.lines) same ∙ sym y.ended.text,
    )

two_no : (p : Pass) (text told : List ℕ) (turn other : Turn) → PassesTo p.board p.catalog p.fuel (put text) (No turn) → PassesTo p.board p.catalog p.fuel (put told) (No other) → (turn ≡ other) × (text ≡ told)
two_no p text told turn other (inl x) (inl y) = two_short p text told turn other x y
two_no p text told turn other (inl x) (inr y) = absurd (ended_is_not_left p x.ended.boot told other y)
two_no p text told turn other (inr x) (inl y) = absurd (ended_is_not_left p y.ended.boot text turn x)
two_no p text told turn other (inr x) (inr y) = two_left p text told turn other x y

-- one that has not ended short is no other
not_both : (p : Pass) (text told : List ℕ) (end : RunEnd) (turn : Turn) → PassesTo p.board p.catalog p.fuel (put text) (Ended end) → PassesTo p.board p.catalog p.fuel (put told) (No turn) → ⊥
not_both p text told end turn x (inl y) = true≢false (sym y.short ∙ ap (λ (a : AtEnd). is_short a.result a.turn) (sym (two_boots p x.0.boot y.ended.boot)) ∙ x.2)
not_both p text told end turn x (inr y) = ended_is_not_left p x.0.boot told turn y

pub one_pass : RunLaws → OnePass
one_pass laws board catalog fuel well one other text told p q = by one other p q
  where
    pass : Pass
    pass = record { board = board; catalog = catalog; fuel = fuel; well = well; laws = laws }

    by : (one other : Passed) → PassesTo board catalog fuel (put text) one → PassesTo board catalog fuel (put told) other → (one ≡ other) × (text ≡ told)
    by (Ended a) (Ended b) x y =
        let same = two_boots pass x.0.boot y.0.boot in
        (ap Ended (sym x.1 ∙ ap (λ (z : AtEnd). z.result) same ∙ y.1), x.0.text ∙ ap (λ (z : AtEnd). text_of z.lines) same ∙ sym y.0.text)
    by (Ended a) (No turn) x y = absurd (not_both pass text told a turn x y)
    by (No turn) (Ended b) x y = absurd (not_both pass told text b turn y x)
    by (No turn) (No rest) x y = let same = two_no pass text told turn rest x y in (ap No same.0, same.1)

-- a machine that hands something on goes no further
has_stopped : (p : Pass) (m : PeiMachine) (handed : HandOff) → HandsOn m handed → Stands (boot_of p) m
has_stopped p m handed is = let so = has_ended_so m handed is in over so.0 so.1

pub one_hand_off : RunLaws → OneHandOff
one_hand_off laws board catalog fuel well one other p q =
    let pass : Pass = record { board = board; catalog = catalog; fuel = fuel; well = well; laws = laws } in
    let same = (one_run (boot_of pass) p.comes.earlier q.comes.earlier p.pei q.pei p.comes.run (has_stopped pass p.pei one p.is) q.comes.run (has_stopped pass q.pei other q.is)).1 in
    one_handed p.pei one other p.is (subst (λ m. HandsOn m other) (sym same) q.is)
