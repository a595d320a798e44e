-- The texts of a plan and of an order of starts have one report.
use Rattle.std.proofs.Common.{◌≡◌, ◌+◌, ◌-◌, ◌^◌, ◌≤◌, ℕ, List, ◌++◌, Option, length, sym, ap, ◌∙◌, subst, arith}
use Rattle.pi_base.specs.{Field.AreBytes, Lists.Each}
use Rattle.boot_plan.specs.declared.plan.Plan.{Plan}
use Rattle.mod_catalog.specs.{declared.catalogue.Catalog.Catalog, Catalogue.IsCatalogue, WellFormed.IsWellFormed}
use Rattle.boot_model.specs.PlanBoard.{board_of}
use Rattle.recorded_boot.specs.{Named.IsFirstWithTwins, declared.order.lines.StartOrder.StartOrder, OrderText.IsFirstBad, OrderText.IsOrder}
use Rattle.boot_core.specs.Job.{IsNamedIn}
use Rattle.recorded_boot.specs.OneBoot.{OneBoot}
use Rattle.tools_core.specs.FollowReport.{BootsSo, FollowReport, OrderReport, OrderTextsOutcome, bad_order, boots, image_refused, in_order, order_limit, twins}
use Rattle.tools_core.specs.{FollowText.last_text, FollowText.order_line, OneOutcome.AreAllTold, OneOutcome.IsOne}
use Rattle.tools_core.specs.{Refusals.image_line, Refusals.twins_line, ReportText.followed_status}
use Rattle.tools_core.proofs.OneCheck as C
use Rattle.tools_core.proofs.OneCheck.{one_of_job, one_volume}

-- the laws of plans and catalogues, and what the crates of orders say: a text has one order, or one first bad line, and an order one boot
pub record Laws : Type 0 where
  pub plans : C.Laws
  pub well : (plan : Plan) (images : List (List ℕ)) (catalog : Catalog) → IsCatalogue plan images catalog → IsWellFormed catalog
  pub orders : (text : List ℕ) (a b : StartOrder) → IsOrder text a → IsOrder text b → a ≡ b
  pub bad_lines : (text : List ℕ) (m n : ℕ) → IsFirstBad text m → IsFirstBad text n → m ≡ n
  pub order_or_bad : (text : List ℕ) (order : StartOrder) (line : ℕ) → IsOrder text order → IsFirstBad text line → ⊥
  pub short : (text : List ℕ) (order : StartOrder) → IsOrder text order → length order.starts ≤ length text + 1
  pub boot : OneBoot

one_boot : Laws → (plan : Plan) (images : List (List ℕ)) (order : StartOrder) → length order.starts ≤ 2 ^ 32 - 1 → Each AreBytes images → IsOne (OrderReport plan images order)
one_boot laws plan images order few are a b s t (image_refused f p e u) (image_refused g q h v) = (e ∙ sym h, u ∙ ap image_line (laws.plans.image_faults plan images f g are p q) ∙ sym v)
one_boot laws plan images order few are a b s t (image_refused f p e u) (twins c sound n q h v) = absurd (laws.plans.catalogue_or_fault plan images c f are sound p)
one_boot laws plan images order few are a b s t (image_refused f p e u) (boots c sound apart o l q h v) = absurd (laws.plans.catalogue_or_fault plan images c f are sound p)
one_boot laws plan images order few are a b s t (twins c sound m p e u) (image_refused g q h v) = absurd (laws.plans.catalogue_or_fault plan images c g are sound q)
one_boot laws plan images order few are a b s t (twins c sound m p e u) (twins d also n q h v) =
    let here : IsFirstWithTwins c n = subst (λ (x : Catalog). IsFirstWithTwins x n) (laws.plans.catalogues plan images d c also sound) q in
    (e ∙ sym h, u ∙ ap twins_line (one_volume c m n p here) ∙ sym v)
one_boot laws plan images order few are a b s t (twins c sound m p e u) (boots d also apart o l q h v) =
    let here : IsFirstWithTwins d m = subst (λ (x : Catalog). IsFirstWithTwins x m) (laws.plans.catalogues plan images c d sound also) p in
    absurd (apart m here.twins)
one_boot laws plan images order few are a b s t (boots c sound apart o l p e u) (image_refused g q h v) = absurd (laws.plans.catalogue_or_fault plan images c g are sound q)
one_boot laws plan images order few are a b s t (boots c sound apart o l p e u) (twins d also n q h v) =
    let here : IsFirstWithTwins c n = subst (λ (x : Catalog). IsFirstWithTwins x n) (laws.plans.catalogues plan images d c also sound) q in
    absurd (apart n here.twins)
one_boot laws plan images order few are a b s t (boots c sound apart o l p e u) (boots d also other r k q h v) =
    let P : Catalog → Type 0 = λ x. BootsSo plan images x order r k in
    let there : BootsSo plan images c order r k = subst P (laws.plans.catalogues plan images d c also sound) q in
    let same = laws.boot (board_of plan c images) c plan.fuel order (laws.well plan images c sound) apart few o r l k p there in
    (e ∙ ap followed_status same.0 ∙ sym h, u ∙ ap (λ x. x ++ last_text o) same.1 ∙ ap (λ x. k ++ last_text x) same.0 ∙ sym v)

one_order : Laws → (text : List ℕ) → length text ≤ order_limit → (plan : Plan) (images : List (List ℕ)) → Each AreBytes images → IsOne (FollowReport plan images text)
one_order laws text short plan images are a b s t (bad_order m p e u) (bad_order n q h v) = (e ∙ sym h, u ∙ ap order_line (laws.bad_lines text m n p q) ∙ sym v)
one_order laws text short plan images are a b s t (bad_order m p e u) (in_order order q o) = absurd (laws.order_or_bad text order m q p)
one_order laws text short plan images are a b s t (in_order order p o) (bad_order n q h v) = absurd (laws.order_or_bad text order n p q)
one_order laws text short plan images are a b s t (in_order order p o) (in_order other q u) =
    let P : StartOrder → Type 0 = λ x. OrderReport plan images x b t in
    let most = laws.short text order p in
    one_boot laws plan images order (omega (arith, most, short)) are a b s t o (subst P (laws.orders text other order q p) u)

pub one_follow : Laws → (told : List ℕ → Option (List ℕ)) (content text : List ℕ) → length text ≤ order_limit → AreAllTold told (IsNamedIn told content) → IsOne (OrderTextsOutcome told content text)
one_follow laws told content text short all = one_of_job laws.plans (λ plan images. FollowReport plan images text) (one_order laws text short) told content all
