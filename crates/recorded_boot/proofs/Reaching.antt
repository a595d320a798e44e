-- Where a boot along an order is left or ends: in PEI, and in DXE.
use Rattle.std.proofs.Common.{◌≡◌, ℕ, ◌+◌, List, [], ◌∷◌, ◌++◌, length, Some, None, Ok, is_some, refl, sym, ap, ◌∙◌, subst, append_assoc, append-nil}
use Rattle.std.specs.Io.KnownBytes.{Appends}
use Rattle.pi_base.specs.declared.phase.Phase.TheVariants.{Pei}
use Rattle.mod_catalog.specs.declared.catalogue.Catalog.{Catalog}
use Rattle.store_model.specs.{HandleState.HandleState, HandleState.no_handles, StoreState.StoreState}
use Rattle.boot_model.specs.{declared.line.Line.Line, declared.line.RunEnd.RunEnd, declared.phase_end.DxeEnd.DxeEnd}
use Rattle.boot_model.specs.declared.line.Line.TheVariants as L
use Rattle.boot_model.specs.declared.line.RunEnd.TheVariants as E
use Rattle.boot_model.specs.{declared.phase_end.PeiEnd.PeiEnd, DxeMachine.DxeMachine, FreeRun.AreFreeLinesAfter, FreeRun.AreFreePeiLines}
use Rattle.boot_model.specs.declared.phase_end.PeiEnd.TheVariants.{Handoff, NoMemory, NoIpl, Spent, Deep}
use Rattle.boot_model.specs.BootRun.{both_lines, dxe_result, handle_lines, lines_after}
use Rattle.boot_model.specs.{Listing.store_lines, PeiMachine.PeiMachine, Text.text_of}
use Rattle.boot_trace.specs.Printing.{Texts}
use Rattle.boot_laws.proofs.DxeRuns as DxeRuns
use Rattle.boot_laws.proofs.PeiRuns as PeiRuns
use Rattle.recorded_boot.specs.{Starts.starts, declared.follow.followed.Followed.Followed, Along.IsAlong, Answer.FollowsTo}
use Rattle.recorded_boot.proofs.{Runs.pei_leads, Along.lets_stop, ClosingStarts.closing_quiet, Itself.dxe_itself, Itself.pei_itself}
use Rattle.pei_dispatch.specs.Ends.{pei_starts}
use Rattle.boot_core.specs.{Closing.closing, HandOff.result_of as pei_result}
use Rattle.recorded_boot.specs.InOrder.{BarsInDxe, BarsInPei, IsDxePlace, IsPeiPlace, LeadsTo, StandsInDxe, dxe_place, order_choices, pei_place}
use Rattle.recorded_boot.specs.{Following.stands_in_pei, Following.stands_in_dxe, Leaving.ComesTo}
use Rattle.recorded_boot.proofs.Comings.{Stand, barred_comes, ended_comes, in_order}
use Rattle.recorded_boot.proofs.PeiOrder as P
use Rattle.recorded_boot.proofs.PeiOrder.{Comes, IsRun, OrderBoot, PeiBar}
use Rattle.recorded_boot.proofs.DxeOrder as D
use Rattle.recorded_boot.proofs.DxeOrder.{DxeBar, DxeCome, Handed, IsDxeRun, all_starts, back_from, came, goes_from}

-- a machine of PEI
abbrev pei_stand : (b : OrderBoot) (earlier : List PeiMachine) (m : PeiMachine) → Comes b earlier m → IsAlong b.order (starts m.lines) → Stand
pei_stand b earlier m come far = record {
  board = b.board;
  catalog = b.catalog;
  fuel = b.fuel;
  order = b.order;
  lines = m.lines;
  s = m.store;
  h = no_handles;
  index = pei_starts m;
  stands = stands_in_pei earlier m come refl refl refl;
  along = far;
  at = P.index b earlier m come;
}

-- the place where PEI is left
bars_at : (b : OrderBoot) (m : PeiMachine) (number : ℕ) (bar : PeiBar b m number) → LeadsTo b.board b.catalog b.fuel b.order (pei_place m None)
bars_at b m number bar =
    let By = order_choices b.catalog b.fuel b.order in
    let bars : BarsInPei By b.catalog m = record { number = number; due = bar.due; barred = bar.barred } in
    let at : IsPeiPlace By b.catalog b.fuel m None (pei_place m None) = (bars, refl) in
    record { earlier = bar.earlier; m = m; runs = bar.run; stands = subst (λ o. IsPeiPlace By b.catalog b.fuel m o (pei_place m None)) (sym bar.going) at }

-- PEI is left before a start that is not let
pub pei_bars : (b : OrderBoot) (m : PeiMachine) (number : ℕ) (bar : PeiBar b m number) (t : Texts) (followed : Followed) → Appends t.old t.new (text_of m.lines)
    → ComesTo b.catalog b.order (pei_starts m) m.store no_handles None followed → FollowsTo b.board b.catalog b.fuel b.order t (Ok followed)
pei_bars b m number bar t followed text c =
    let p = pei_stand b bar.earlier m (P.comes b bar.earlier m bar.run) (P.along b bar.earlier m bar.run) in (
      barred_comes p t (P.before_start b m number bar)
          (λ asked asks others free first. P.none_starts b m number asked bar asks others free first)
          (λ none. lets_stop b.catalog b.order Pei (pei_starts m) number bar.barred none) text followed c,
      in_order p t None followed (bars_at b m number bar) (subst (λ xs. Appends t.old t.new (text_of xs)) (sym (append-nil m.lines)) text) c,
    )

-- the lines behind a PEI that has ended so, without a hand-off
ended_so : (m : PeiMachine) (so this : RunEnd) (lines : List Line) → Some this ≡ Some so → lines ≡ m.lines ++ closing m.store no_handles so → lines ≡ m.lines ++ closing m.store no_handles this
ended_so m so this lines e is = let same : this ≡ so = cc in is ∙ ap (λ x. m.lines ++ closing m.store no_handles x) (sym same)

so_ended : (m : PeiMachine) (so this : RunEnd) (lines : List Line) → Some this ≡ Some so → lines ≡ m.lines ++ closing m.store no_handles this → lines ≡ m.lines ++ closing m.store no_handles so
so_ended m so this lines e is = let same : this ≡ so = cc in is ∙ ap (λ x. m.lines ++ closing m.store no_handles x) same

after_end : (catalog : Catalog) (fuel : ℕ) (m : PeiMachine) (how : PeiEnd) (so : RunEnd) (lines : List Line) → pei_result how ≡ Some so → lines ≡ m.lines ++ closing m.store no_handles so → AreFreeLinesAfter catalog fuel m (Some how) lines
after_end catalog fuel m Handoff so lines e is = cc
after_end catalog fuel m NoMemory so lines e is = ended_so m so E.NoMemory lines e is
after_end catalog fuel m NoIpl so lines e is = ended_so m so E.NoIpl lines e is
after_end catalog fuel m Spent so lines e is = ended_so m so E.Spent lines e is
after_end catalog fuel m Deep so lines e is = ended_so m so E.Deep lines e is

end_after : (catalog : Catalog) (fuel : ℕ) (m : PeiMachine) (how : PeiEnd) (so : RunEnd) (lines : List Line) → pei_result how ≡ Some so → AreFreeLinesAfter catalog fuel m (Some how) lines → lines ≡ m.lines ++ closing m.store no_handles so
end_after catalog fuel m Handoff so lines e is = cc
end_after catalog fuel m NoMemory so lines e is = so_ended m so E.NoMemory lines e is
end_after catalog fuel m NoIpl so lines e is = so_ended m so E.NoIpl lines e is
end_after catalog fuel m Spent so lines e is = so_ended m so E.Spent lines e is
end_after catalog fuel m Deep so lines e is = so_ended m so E.Deep lines e is

-- the last of all lines is the result
last_is : (lines : List Line) (s : StoreState) (h : HandleState) (end : RunEnd) → (before : List Line) × (lines ++ closing s h end ≡ before ++ L.Result end ∷ [])
last_is lines s h end = (lines ++ (store_lines s ++ handle_lines h), sym (append_assoc lines (store_lines s ++ handle_lines h) (L.Result end ∷ [])))

-- the place where a boot ended in PEI
ends_at : (b : OrderBoot) (earlier : List PeiMachine) (m : PeiMachine) (how : PeiEnd) (so : RunEnd) → IsRun b earlier m → m.ended ≡ Some how → pei_result how ≡ Some so → LeadsTo b.board b.catalog b.fuel b.order (pei_place m (Some so))
ends_at b earlier m how so run ended is =
    record { earlier = earlier; m = m; runs = run; stands = subst (λ o. IsPeiPlace (order_choices b.catalog b.fuel b.order) b.catalog b.fuel m o (pei_place m (Some so))) (sym ended) (at how is) }
  where
    same : (this : RunEnd) → Some this ≡ Some so → pei_place m (Some so) ≡ pei_place m (Some this)
    same this e = ap (pei_place m) (sym e)

    at : (how : PeiEnd) → pei_result how ≡ Some so → IsPeiPlace (order_choices b.catalog b.fuel b.order) b.catalog b.fuel m (Some how) (pei_place m (Some so))
    at Handoff e = cc
    at NoMemory e = same E.NoMemory e
    at NoIpl e = same E.NoIpl e
    at Spent e = same E.Spent e
    at Deep e = same E.Deep e

no_handoff : (how : PeiEnd) (so : RunEnd) → pei_result how ≡ Some so → how ≡ Handoff → ⊥
no_handoff how so is e = let gone : None ≡ Some so = sym (ap pei_result e) ∙ is in cc

own_lines : (catalog : Catalog) (fuel : ℕ) (m : PeiMachine) (how : PeiEnd) (so : RunEnd) → pei_result how ≡ Some so → m.lines ++ closing m.store no_handles so ≡ lines_after catalog fuel m (Some how)
own_lines catalog fuel m Handoff so e = cc
own_lines catalog fuel m NoMemory so e = ended_so m so E.NoMemory (m.lines ++ closing m.store no_handles so) e refl
own_lines catalog fuel m NoIpl so e = ended_so m so E.NoIpl (m.lines ++ closing m.store no_handles so) e refl
own_lines catalog fuel m Spent so e = ended_so m so E.Spent (m.lines ++ closing m.store no_handles so) e refl
own_lines catalog fuel m Deep so e = ended_so m so E.Deep (m.lines ++ closing m.store no_handles so) e refl

-- a boot that ended in PEI
pub pei_ends : (b : OrderBoot) (earlier : List PeiMachine) (m : PeiMachine) (how : PeiEnd) (so : RunEnd) (t : Texts) (followed : Followed) → IsRun b earlier m → m.ended ≡ Some how → pei_result how ≡ Some so
    → Appends t.old t.new (text_of (m.lines ++ closing m.store no_handles so)) → ComesTo b.catalog b.order (pei_starts m) m.store no_handles (Some so) followed → FollowsTo b.board b.catalog b.fuel b.order t (Ok followed)
pei_ends b earlier m how so t followed run ended is text c =
    let come = P.comes b earlier m run in
    let p = pei_stand b earlier m come (P.along b earlier m run) in
    let last = closing m.store no_handles so in
    let all = m.lines ++ last in
    let here : AreFreePeiLines b.catalog b.fuel m all = (PeiRuns.ends_so b.catalog b.fuel m (ap is_some ended) all).1 (subst (λ o. AreFreeLinesAfter b.catalog b.fuel m o all) (sym ended) (after_end b.catalog b.fuel m how so all is refl)) in (
      ended_comes p t last so (closing_quiet m.store no_handles so) ((pei_leads b.board b.catalog b.fuel earlier m b.apart come all).1 here)
          (λ others free first.
          let on : AreFreePeiLines b.catalog b.fuel m others = (pei_leads b.board b.catalog b.fuel earlier m b.apart come others).0 free first in
          let after = (PeiRuns.ends_so b.catalog b.fuel m (ap is_some ended) others).0 on in
          end_after b.catalog b.fuel m how so others is (subst (λ o. AreFreeLinesAfter b.catalog b.fuel m o others) ended after))
          (last_is m.lines m.store no_handles so) (λ few. pei_itself b earlier m how all run ended few (no_handoff how so is) (own_lines b.catalog b.fuel m how so is)) text followed c,
      in_order p t (Some so) followed (ends_at b earlier m how so run ended is) text c,
    )

-- a machine of DXE
abbrev dxe_stand : (b : OrderBoot) (h : Handed b) (m : DxeMachine) → DxeCome b h m → IsAlong b.order (all_starts h m) → Stand
dxe_stand b h m come far = record {
  board = b.board;
  catalog = b.catalog;
  fuel = b.fuel;
  order = b.order;
  lines = h.pei.lines ++ m.lines;
  s = h.pei.store;
  h = m.handles;
  index = pei_starts h.pei + length m.started;
  stands = stands_in_dxe h.earlier h.pei h.come h.ended come.over m come.is refl refl refl;
  along = far;
  at = D.index b h m come;
}

-- the place where DXE is left
dxe_bars_at : (b : OrderBoot) (h : Handed b) (over : List DxeMachine) (number : ℕ) → IsDxeRun b h over → DxeBar b h (came b h over) number → LeadsTo b.board b.catalog b.fuel b.order (dxe_place h.pei (came b h over) None)
dxe_bars_at b h over number run bar =
    let By = order_choices b.catalog b.fuel b.order in
    let m = came b h over in
    let place = dxe_place h.pei m None in
    let bars : BarsInDxe By b.catalog h.pei over m = record { number = number; due = bar.due; barred = bar.barred } in
    let at : IsDxePlace By b.catalog h.pei over m None place = (bars, refl) in
    let here : StandsInDxe By b.catalog b.fuel h.pei place = record { m = m; comes = record { earlier = over; run = run; is = refl }; stands = subst (λ o. IsDxePlace By b.catalog h.pei over m o place) (sym bar.going) at } in
    record { earlier = h.earlier; m = h.pei; runs = h.run; stands = subst (λ o. IsPeiPlace By b.catalog b.fuel h.pei o place) (sym h.ended) here }

-- DXE is left before a start that is not let
pub dxe_bars : (b : OrderBoot) (h : Handed b) (over : List DxeMachine) (number : ℕ) (run : IsDxeRun b h over) (bar : DxeBar b h (came b h over) number) (t : Texts) (followed : Followed)
    → Appends t.old t.new (text_of (h.pei.lines ++ (came b h over).lines)) → ComesTo b.catalog b.order (pei_starts h.pei + length (came b h over).started) h.pei.store (came b h over).handles None followed
    → FollowsTo b.board b.catalog b.fuel b.order t (Ok followed)
dxe_bars b h over number run bar t followed text c =
    let m = came b h over in
    let p = dxe_stand b h m bar.come (D.dxe_along b h over run) in (
      barred_comes p t (D.before_start b h m number bar)
          (λ asked asks others free first. D.none_starts b h m number asked bar asks others free first)
          (λ none. D.stops_there b h m number bar none) text followed c,
      in_order p t None followed (dxe_bars_at b h over number run bar) (subst (λ xs. Appends t.old t.new (text_of xs)) (sym (append-nil (h.pei.lines ++ m.lines))) text) c,
    )

-- the place where a boot ended in DXE
dxe_ends_at : (b : OrderBoot) (h : Handed b) (over : List DxeMachine) (how : DxeEnd) → IsDxeRun b h over → (came b h over).ended ≡ Some how → LeadsTo b.board b.catalog b.fuel b.order (dxe_place h.pei (came b h over) (Some (dxe_result how)))
dxe_ends_at b h over how run ended =
    let By = order_choices b.catalog b.fuel b.order in
    let m = came b h over in
    let place = dxe_place h.pei m (Some (dxe_result how)) in
    let at : IsDxePlace By b.catalog h.pei over m (Some how) place = refl in
    let here : StandsInDxe By b.catalog b.fuel h.pei place = record { m = m; comes = record { earlier = over; run = run; is = refl }; stands = subst (λ o. IsDxePlace By b.catalog h.pei over m o place) (sym ended) at } in
    record { earlier = h.earlier; m = h.pei; runs = h.run; stands = subst (λ o. IsPeiPlace By b.catalog b.fuel h.pei o place) (sym h.ended) here }

-- a boot that ended in DXE
pub dxe_ends : (b : OrderBoot) (h : Handed b) (over : List DxeMachine) (how : DxeEnd) (t : Texts) (followed : Followed) → IsDxeRun b h over → (came b h over).ended ≡ Some how
    → Appends t.old t.new (text_of ((h.pei.lines ++ (came b h over).lines) ++ closing h.pei.store (came b h over).handles (dxe_result how)))
    → ComesTo b.catalog b.order (pei_starts h.pei + length (came b h over).started) h.pei.store (came b h over).handles (Some (dxe_result how)) followed → FollowsTo b.board b.catalog b.fuel b.order t (Ok followed)
dxe_ends b h over how t followed run ended text c =
    let m = came b h over in
    let come = D.comes_in_dxe b h over run in
    let p = dxe_stand b h m come (D.dxe_along b h over run) in
    let lines = h.pei.lines ++ m.lines in
    let last = closing h.pei.store m.handles (dxe_result how) in
    let all = lines ++ last in
    let whole : both_lines h.pei m m.ended ≡ all = ap (both_lines h.pei m) ended in (
      ended_comes p t last (dxe_result how) (closing_quiet h.pei.store m.handles (dxe_result how))
          (back_from b h m all come ((DxeRuns.ends_so b.catalog b.fuel h.pei m (ap is_some ended) all).1 (sym whole)))
          (λ others free first. (DxeRuns.ends_so b.catalog b.fuel h.pei m (ap is_some ended) others).0 (goes_from b h m others come free first) ∙ whole)
          (last_is lines h.pei.store m.handles (dxe_result how)) (λ few. dxe_itself b h over all run (ap is_some ended) few (sym whole)) text followed c,
      in_order p t (Some (dxe_result how)) followed (dxe_ends_at b h over how run ended) text c,
    )
