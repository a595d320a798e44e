-- Of which boot an explanation is.
use Rattle.std.proofs.Common.{◌≡◌, ℕ, ◌++◌, Some, Option, option_map, refl, sym, ap, ◌∙◌, subst}
use Rattle.boot_laws.specs.RunsEnd.{DxeRunsEnd, PeiRunsEnd}
use Rattle.mod_catalog.specs.{declared.catalogue.Catalog.Catalog, WellFormed.IsWellFormed}
use Rattle.store_model.specs.{HandleState.no_handles, StoreState.Board}
use Rattle.boot_model.specs.{BootRun.dxe_result, declared.line.RunEnd.RunEnd, declared.phase_end.PeiEnd.PeiEnd, DxeMachine.DxeMachine}
use Rattle.boot_model.specs.declared.line.RunEnd.TheVariants as E
use Rattle.boot_model.specs.declared.phase_end.PeiEnd.TheVariants.{Handoff, NoMemory, NoIpl, Spent, Deep}
use Rattle.boot_model.specs.DxeRun.{dxe_bound, dxe_end, dxe_opening}
use Rattle.boot_model.specs.{PeiMachine.PeiMachine, PeiRun.pei_end}
use Rattle.dxe_dispatch.specs.Choices.{came}
use Rattle.dxe_dispatch.proofs.FirstRuns as D
use Rattle.pei_dispatch.proofs.FirstRuns as P
use Rattle.boot_core.specs.{WholeEnd.end_after, WholeEnd.end_of, Choices.Choices}
use Rattle.boot_reasons.specs.{declared.pei.PeiExplained.PeiExplained, Joining.alone, Joining.together}
use Rattle.explain_text.specs.declared.reasons.Explained.{Explained}
use Rattle.boot_reasons.specs.Boots.{AreDriversOf, ExplainsBoots, IsOfBoot, IsOfOwnBoot}
use Rattle.boot_reasons.specs.Explained.{IsExplained, IsExplainedAfter, IsExplainedInDxe, own_choices}

result_of : (one other : Explained) → one ≡ other → other.result ≡ one.result
result_of one other same = ap (λ (x : Explained). x.result) (sym same)

-- it is a boot by these choices
pub boot_of : (by : Catalog → ℕ → Choices) → ExplainsBoots by
boot_of by board catalog fuel e is = after is.first.«end» refl is.ends
  where
    so : (how : PeiEnd) → is.first.«end» ≡ how → is.pei.ended ≡ Some how
    so how same = is.peims.ended ∙ ap Some same

    after : (how : PeiEnd) → is.first.«end» ≡ how → IsExplainedAfter (by catalog fuel) catalog fuel is.pei is.first how e → IsOfBoot (by catalog fuel) board catalog fuel e is
    after Handoff same ends =
        let drivers = ends.drivers in
        let m = came catalog fuel (dxe_opening catalog is.pei.store is.pei.actions) drivers.earlier in
        record {
          boot = record {
            pei = is.pei;
            comes = record { earlier = is.earlier; run = is.run };
            how = Handoff;
            ended = so Handoff same;
            lines = is.pei.lines ++ m.lines;
            handles = m.handles;
            result = dxe_result ends.second.«end»;
            ends = record {
              dxe = m;
              comes = record { earlier = drivers.earlier; run = drivers.run; is = refl };
              how = ends.second.«end»;
              ended = drivers.explained.ended;
              lines_are = refl;
              handles_are = refl;
              end_is = refl;
            };
          };
          pei_is = refl;
          result_is = result_of e (together is.first ends.second) ends.is;
        }
    after NoMemory same ends = record {
      boot = record {
        pei = is.pei;
        comes = record { earlier = is.earlier; run = is.run };
        how = NoMemory;
        ended = so NoMemory same;
        lines = is.pei.lines;
        handles = no_handles;
        result = E.NoMemory;
        ends = record { lines_are = refl; handles_are = refl; end_is = refl };
      };
      pei_is = refl;
      result_is = result_of e (alone is.first is.pei.actions E.NoMemory) ends;
    }
    after NoIpl same ends = record {
      boot = record {
        pei = is.pei;
        comes = record { earlier = is.earlier; run = is.run };
        how = NoIpl;
        ended = so NoIpl same;
        lines = is.pei.lines;
        handles = no_handles;
        result = E.NoIpl;
        ends = record { lines_are = refl; handles_are = refl; end_is = refl };
      };
      pei_is = refl;
      result_is = result_of e (alone is.first is.pei.actions E.NoIpl) ends;
    }
    after Spent same ends = record {
      boot = record {
        pei = is.pei;
        comes = record { earlier = is.earlier; run = is.run };
        how = Spent;
        ended = so Spent same;
        lines = is.pei.lines;
        handles = no_handles;
        result = E.Spent;
        ends = record { lines_are = refl; handles_are = refl; end_is = refl };
      };
      pei_is = refl;
      result_is = result_of e (alone is.first is.pei.actions E.Spent) ends;
    }
    after Deep same ends = record {
      boot = record {
        pei = is.pei;
        comes = record { earlier = is.earlier; run = is.run };
        how = Deep;
        ended = so Deep same;
        lines = is.pei.lines;
        handles = no_handles;
        result = E.Deep;
        ends = record { lines_are = refl; handles_are = refl; end_is = refl };
      };
      pei_is = refl;
      result_is = result_of e (alone is.first is.pei.actions E.Deep) ends;
    }

end_is_of : (board : Board) (catalog : Catalog) (fuel : ℕ) (end : RunEnd) → end_after catalog fuel (pei_end board catalog fuel) (pei_end board catalog fuel).ended ≡ Some end → end_of board catalog fuel ≡ Some end
unfolding end_of
end_is_of board catalog fuel end is = is

-- choices that name none lead to the machine's own end of DXE
own_drivers : (dxe_ends : DxeRunsEnd) (catalog : Catalog) (fuel : ℕ) (pei : PeiMachine) (first : PeiExplained) (e : Explained) → IsWellFormed catalog → (ends : IsExplainedInDxe (own_choices catalog fuel) catalog fuel pei first e)
    → came catalog fuel (dxe_opening catalog pei.store pei.actions) ends.drivers.earlier ≡ dxe_end catalog fuel pei.store pei.actions
own_drivers dxe_ends catalog fuel pei first e well ends =
    D.first_end ((own_choices catalog fuel).drivers pei) ((own_choices catalog fuel).lets_driver pei) catalog fuel (dxe_bound catalog fuel) (dxe_opening catalog pei.store pei.actions) ends.drivers.earlier ends.second.«end» (λ over x named none. none)
    (dxe_ends catalog well.parents fuel pei.store pei.actions) ends.drivers.run ends.drivers.explained.ended

pub own_boot : (pei_ends : PeiRunsEnd) (dxe_ends : DxeRunsEnd) (board : Board) (catalog : Catalog) (fuel : ℕ) (e : Explained) → IsWellFormed catalog → (is : IsExplained board catalog fuel e) → IsOfOwnBoot board catalog fuel e is
own_boot pei_ends dxe_ends board catalog fuel e well is = record {
  pei_is = same;
  drivers = λ handed. told is.first.«end» refl is.ends handed;
  result_is = end_is_of board catalog fuel e.result (subst Result same (after is.first.«end» refl is.ends));
}
  where
    same : is.pei ≡ pei_end board catalog fuel
    same = P.first_end pei_ends (own_choices catalog fuel).peims (own_choices catalog fuel).lets_peim board catalog fuel is.pei is.first.«end» (λ m named none. none) (record { earlier = is.earlier; run = is.run }) is.peims.ended

    Result : PeiMachine → Type 0
    Result x = end_after catalog fuel x x.ended ≡ Some e.result

    so : (how : PeiEnd) (o : Option RunEnd) → is.first.«end» ≡ how → end_after catalog fuel is.pei (Some how) ≡ o → end_after catalog fuel is.pei is.pei.ended ≡ o
    so how o this f = ap (end_after catalog fuel is.pei) (is.peims.ended ∙ ap Some this) ∙ f

    after : (how : PeiEnd) → is.first.«end» ≡ how → IsExplainedAfter (own_choices catalog fuel) catalog fuel is.pei is.first how e → Result is.pei
    after Handoff this ends =
        let last = own_drivers dxe_ends catalog fuel is.pei is.first e well ends in
        let over : (dxe_end catalog fuel is.pei.store is.pei.actions).ended ≡ Some ends.second.«end» = ap (λ (x : DxeMachine). x.ended) (sym last) ∙ ends.drivers.explained.ended in
        so Handoff (Some e.result) this (ap (option_map dxe_result) over ∙ ap Some (result_of e (together is.first ends.second) ends.is))
    after NoMemory this ends = so NoMemory (Some e.result) this (ap Some (result_of e (alone is.first is.pei.actions E.NoMemory) ends))
    after NoIpl this ends = so NoIpl (Some e.result) this (ap Some (result_of e (alone is.first is.pei.actions E.NoIpl) ends))
    after Spent this ends = so Spent (Some e.result) this (ap Some (result_of e (alone is.first is.pei.actions E.Spent) ends))
    after Deep this ends = so Deep (Some e.result) this (ap Some (result_of e (alone is.first is.pei.actions E.Deep) ends))

    told : (how : PeiEnd) → is.first.«end» ≡ how → IsExplainedAfter (own_choices catalog fuel) catalog fuel is.pei is.first how e → is.pei.ended ≡ Some Handoff → AreDriversOf (dxe_end catalog fuel is.pei.store is.pei.actions) e
    told Handoff this ends handed =
        let last = own_drivers dxe_ends catalog fuel is.pei is.first e well ends in
        record {
          discovered_are = ap (λ (x : Explained). x.discovered) ends.is ∙ ends.drivers.explained.discovered ∙ ap (λ (x : DxeMachine). x.discovered) last;
          actions_are = ap (λ (x : Explained). x.actions) ends.is ∙ ends.drivers.explained.actions_are ∙ ap (λ (x : DxeMachine). x.actions) last;
        }
    told NoMemory this ends handed = let never : Some NoMemory ≡ Some Handoff = ap Some (sym this) ∙ sym is.peims.ended ∙ handed in cc
    told NoIpl this ends handed = let never : Some NoIpl ≡ Some Handoff = ap Some (sym this) ∙ sym is.peims.ended ∙ handed in cc
    told Spent this ends handed = let never : Some Spent ≡ Some Handoff = ap Some (sym this) ∙ sym is.peims.ended ∙ handed in cc
    told Deep this ends handed = let never : Some Deep ≡ Some Handoff = ap Some (sym this) ∙ sym is.peims.ended ∙ handed in cc
