-- Choices that name one module at most lead to one explanation.
use Rattle.std.proofs.Common.{◌≡◌, ℕ, List, Some, None, refl, sym, ap, ◌∙◌, subst}
use Rattle.boot_laws.specs.declared.choice.Reached.{Reached}
use Rattle.mod_catalog.specs.declared.catalogue.Catalog.{Catalog}
use Rattle.boot_model.specs.{declared.phase_end.PeiEnd.PeiEnd, declared.driver.Scheduled.Scheduled, DxeMachine.DxeMachine}
use Rattle.boot_model.specs.declared.phase_end.PeiEnd.TheVariants.{Handoff, NoMemory, NoIpl, Spent, Deep}
use Rattle.boot_model.specs.{DxeRun.dxe_opening, DxeStep.DxeStarts, DxeStep.dxe_case_of, PeiMachine.PeiMachine}
use Rattle.boot_laws.specs.declared.choice.Reached.TheVariants as R
use Rattle.dxe_dispatch.specs.Choices as D
use Rattle.boot_core.specs.Choices.{Choices}
use Rattle.boot_core.proofs.OneRun.{Boot, DxeStands, IsDue, Stands, barred, came, differ, dxe_barred, dxe_over, one_due, one_dxe_run, one_run, one_target, over}
use Rattle.boot_reasons.specs.{declared.dxe.DxeExplained.DxeExplained, declared.pei.PeiExplained.PeiExplained, Boots.HasOneExplanation}
use Rattle.explain_text.specs.declared.reasons.Explained.{Explained}
use Rattle.boot_reasons.specs.{Joining.together, PeiEnding.IsPeiExplained}
use Rattle.boot_reasons.specs.DxeTelling as T
use Rattle.boot_reasons.specs.Explained.{ExplainsTo, IsExplainedAfter, IsExplainedBy, IsExplainedInDxe, IsLeftBefore, left_in_dxe, left_in_pei}
use Rattle.boot_reasons.proofs.OneTelling.{one_told, one_told_in_dxe}
pub use Rattle.boot_core.proofs.OneRun.{RunLaws}

-- What it comes to.
pei_over : (b : Boot) (e : Explained) (is : IsExplainedBy b.by b.board b.catalog b.fuel e) → Stands b is.pei
pei_over b e is = over is.first.«end» is.peims.ended

dxe_over_there : (b : Boot) (pei : PeiMachine) (d : DxeExplained) (is : T.ExplainsRun (b.by.drivers pei) (b.by.lets_driver pei) b.catalog b.fuel (dxe_opening b.catalog pei.store pei.actions) d) → DxeStands b pei is.earlier (came b pei is.earlier)
dxe_over_there b pei d is = dxe_over d.«end» is.explained.ended

-- one explanation of DXE behind one machine of PEI
one_second : (b : Boot) (pei : PeiMachine) (d f : DxeExplained) → T.ExplainsRun (b.by.drivers pei) (b.by.lets_driver pei) b.catalog b.fuel (dxe_opening b.catalog pei.store pei.actions) d
    → T.ExplainsRun (b.by.drivers pei) (b.by.lets_driver pei) b.catalog b.fuel (dxe_opening b.catalog pei.store pei.actions) f → d ≡ f
one_second b pei d f p q =
    let same : p.earlier ≡ q.earlier = one_dxe_run b pei p.earlier q.earlier p.run (dxe_over_there b pei d p) q.run (dxe_over_there b pei f q) in
    one_told_in_dxe b.catalog q.earlier (came b pei q.earlier) d f (subst (λ x. T.IsDxeExplained b.catalog x (came b pei x) d) same p.explained) q.explained

one_after : (b : Boot) (pei : PeiMachine) (p : PeiExplained) (how : PeiEnd) (one other : Explained) → IsExplainedAfter b.by b.catalog b.fuel pei p how one → IsExplainedAfter b.by b.catalog b.fuel pei p how other → one ≡ other
one_after b pei p Handoff one other x y = x.is ∙ ap (together p) (one_second b pei x.second y.second x.drivers y.drivers) ∙ sym y.is
one_after b pei p NoMemory one other x y = x ∙ sym y
one_after b pei p NoIpl one other x y = x ∙ sym y
one_after b pei p Spent one other x y = x ∙ sym y
one_after b pei p Deep one other x y = x ∙ sym y

one_explained : (b : Boot) (one other : Explained) → IsExplainedBy b.by b.board b.catalog b.fuel one → IsExplainedBy b.by b.board b.catalog b.fuel other → one ≡ other
one_explained b one other p q =
    let same = one_run b p.earlier q.earlier p.pei q.pei p.run (pei_over b one p) q.run (pei_over b other q) in
    let here : IsPeiExplained b.catalog q.earlier q.pei p.first = subst (λ m. IsPeiExplained b.catalog q.earlier m p.first) same.1 (subst (λ x. IsPeiExplained b.catalog x p.pei p.first) same.0 p.peims) in
    let first : p.first ≡ q.first = one_told b.catalog q.earlier q.pei p.first q.first here q.peims in
    let ends : IsExplainedAfter b.by b.catalog b.fuel q.pei q.first q.first.«end» one =
    subst (λ m. IsExplainedAfter b.by b.catalog b.fuel m q.first q.first.«end» one) same.1 (subst (λ x. IsExplainedAfter b.by b.catalog b.fuel p.pei x x.«end» one) first p.ends) in
    one_after b q.pei q.first q.first.«end» one other ends q.ends

-- an explained boot is left before no start
not_left : (b : Boot) (e : Explained) (number : ℕ) → IsExplainedBy b.by b.board b.catalog b.fuel e → IsLeftBefore b.by b.board b.catalog b.fuel number → ⊥
not_left b e number is (left_in_pei earlier m bars) =
    let same = one_run b is.earlier earlier is.pei m is.run (pei_over b e is) bars.run (barred number bars.due bars.barred) in
    let gone : None ≡ Some is.first.«end» = sym bars.running ∙ ap (λ (x : PeiMachine). x.ended) (sym same.1) ∙ is.peims.ended in
    cc
not_left b e number is (left_in_dxe earlier pei run handed before bars) = by is.first.«end» refl is.ends
  where
    same : (is.earlier ≡ earlier) × (is.pei ≡ pei)
    same = one_run b is.earlier earlier is.pei pei is.run (pei_over b e is) run (over Handoff handed)

    how_is : Some is.first.«end» ≡ Some Handoff
    how_is = sym is.peims.ended ∙ ap (λ (x : PeiMachine). x.ended) same.1 ∙ handed

    in_dxe : IsExplainedInDxe b.by b.catalog b.fuel pei is.first e → ⊥
    in_dxe x =
        let over = one_dxe_run b pei x.drivers.earlier before x.drivers.run (dxe_over_there b pei x.second x.drivers) bars.run (dxe_barred number bars.due bars.barred) in
        let gone : None ≡ Some x.second.«end» = sym bars.running ∙ ap (λ xs. (came b pei xs).ended) (sym over) ∙ x.drivers.explained.ended in
        cc

    by : (how : PeiEnd) → is.first.«end» ≡ how → IsExplainedAfter b.by b.catalog b.fuel is.pei is.first how e → ⊥
    by Handoff this x = in_dxe (subst (λ m. IsExplainedInDxe b.by b.catalog b.fuel m is.first e) same.1 x)
    by NoMemory this x = let gone : Some NoMemory ≡ Some Handoff = ap Some (sym this) ∙ how_is in cc
    by NoIpl this x = let gone : Some NoIpl ≡ Some Handoff = ap Some (sym this) ∙ how_is in cc
    by Spent this x = let gone : Some Spent ≡ Some Handoff = ap Some (sym this) ∙ how_is in cc
    by Deep this x = let gone : Some Deep ≡ Some Handoff = ap Some (sym this) ∙ how_is in cc

-- and is left before one start
one_driver : (b : Boot) (pei : PeiMachine) (earlier : List DxeMachine) (m : DxeMachine) (one other : ℕ) → m.ended ≡ None → D.IsDue (b.by.drivers pei earlier) b.catalog m one → D.IsDue (b.by.drivers pei earlier) b.catalog m other → one ≡ other
one_driver b pei earlier m one other going d e =
    let same : d.target ≡ e.target = one_target b pei earlier m d.target e.target going d.aimed e.aimed in
    let starts : DxeStarts d.starting.next d.starting.queue ≡ DxeStarts e.starting.next e.starting.queue = sym d.starting.starts ∙ ap (dxe_case_of b.catalog) same ∙ e.starting.starts in
    d.starting.is ∙ ap (λ (x : Scheduled). x.module_number) (same_start d.starting.next e.starting.next d.starting.queue e.starting.queue starts) ∙ sym e.starting.is
  where
    same_start : (a b : Scheduled) (q r : List Scheduled) → DxeStarts a q ≡ DxeStarts b r → a ≡ b
    same_start a b q r e = cc

one_left : (b : Boot) (one other : ℕ) → IsLeftBefore b.by b.board b.catalog b.fuel one → IsLeftBefore b.by b.board b.catalog b.fuel other → one ≡ other
one_left b one other (left_in_pei e m x) (left_in_pei f k y) =
    let same = one_run b e f m k x.run (barred one x.due x.barred) y.run (barred other y.due y.barred) in
    one_due b k other one (differ b f k y.run) y.due (subst (λ z. IsDue b z one) same.1 x.due)
one_left b one other (left_in_pei e m x) (left_in_dxe f pei run handed before y) =
    let same = one_run b e f m pei x.run (barred one x.due x.barred) run (over Handoff handed) in
    let gone : None ≡ Some Handoff = sym x.running ∙ ap (λ (z : PeiMachine). z.ended) same.1 ∙ handed in
    cc
one_left b one other (left_in_dxe e pei run handed before x) (left_in_pei f k y) =
    let same = one_run b e f pei k run (over Handoff handed) y.run (barred other y.due y.barred) in
    let gone : None ≡ Some Handoff = sym y.running ∙ ap (λ (z : PeiMachine). z.ended) (sym same.1) ∙ handed in
    cc
one_left b one other (left_in_dxe e pei run handed before x) (left_in_dxe f last runs ended after y) =
    let same = one_run b e f pei last run (over Handoff handed) runs (over Handoff ended) in
    let there : T.IsBarred (b.by.drivers last) (b.by.lets_driver last) b.catalog b.fuel (dxe_opening b.catalog last.store last.actions) before one =
    subst (λ z. T.IsBarred (b.by.drivers z) (b.by.lets_driver z) b.catalog b.fuel (dxe_opening b.catalog z.store z.actions) before one) same.1 x in
    let way : before ≡ after = one_dxe_run b last before after there.run (dxe_barred one there.due there.barred) y.run (dxe_barred other y.due y.barred) in
    one_driver b last after (came b last after) one other y.running (subst (λ xs. D.IsDue (b.by.drivers last xs) b.catalog (came b last xs) one) way there.due) y.due

pub one_boot : (laws : RunLaws) (by : Catalog → ℕ → Choices) → HasOneExplanation by
one_boot laws by board catalog fuel names well one other p q = same one other p q
  where
    b : Boot
    b = record { by = by catalog fuel; board = board; catalog = catalog; fuel = fuel; well = well; names = names; laws = laws }

    same : (one other : Reached Explained) → ExplainsTo (by catalog fuel) board catalog fuel one → ExplainsTo (by catalog fuel) board catalog fuel other → one ≡ other
    same (R.End x) (R.End y) p q = ap R.End (one_explained b x y p q)
    same (R.End x) (R.Barred n) p q = absurd (not_left b x n p q)
    same (R.Barred m) (R.End y) p q = absurd (not_left b y m q p)
    same (R.Barred m) (R.Barred n) p q = ap R.Barred (one_left b m n p q)
