-- The text of a plan whose boot is explained has one report.
use Rattle.std.proofs.Common.{◌≡◌, ℕ, List, ◌++◌, sym, ap, ◌∙◌, subst}
use Rattle.pi_base.specs.{Field.AreBytes, Lists.Each}
use Rattle.boot_plan.specs.declared.plan.Plan.{Plan}
use Rattle.mod_catalog.specs.{declared.catalogue.Catalog.Catalog, declared.catalogue.Module.Module}
use Rattle.mod_catalog.specs.{declared.catalogue.VolumeEntry.VolumeEntry, Catalogue.IsCatalogue, WellFormed.IsWellFormed}
use Rattle.boot_model.specs.PlanBoard.{board_of}
use Rattle.store_model.specs.StoreState.{Board}
use Rattle.explain_text.specs.{declared.reasons.Explained.Explained, Lines.IsCatalogText, Text.explained_text}
use Rattle.boot_laws.specs.declared.choice.Reached.TheVariants as R
use Rattle.boot_core.specs.{Choices.Choices, Choices.NameOne}
use Rattle.boot_reasons.specs.{Boots.HasOneExplanation, Explained.IsExplainedBy, Explained.own_choices}
use Rattle.tools_core.specs.ExplainReport.{ExplainReport, IsExplanation, RunsItself, explained_so, faulty_image}
use Rattle.tools_core.specs.{OneOutcome.IsOne, Refusals.image_line}
use Rattle.tools_core.proofs.OneCheck as C

-- the laws of plans and catalogues; a catalogue has one text, and a boot by choices that name one module at most one explanation
pub record Laws : Type 1 where
  pub plans : C.Laws
  pub well : (plan : Plan) (images : List (List ℕ)) (catalog : Catalog) → IsCatalogue plan images catalog → IsWellFormed catalog
  pub texts : (volumes : List VolumeEntry) (images : List (List ℕ)) (modules : List Module) (a b : List ℕ) → IsCatalogText volumes images modules a → IsCatalogText volumes images modules b → a ≡ b
  pub boots : (by : Catalog → ℕ → Choices) → HasOneExplanation by

end_is : (e f : Explained) → R.End e ≡ R.End f → e ≡ f
end_is e f same = cc

pub one_run : Laws → (by : Catalog → ℕ → Choices) (board : Board) (catalog : Catalog) (fuel : ℕ) → IsWellFormed catalog → NameOne (by catalog fuel) → (e f : Explained) → IsExplainedBy (by catalog fuel) board catalog fuel e → IsExplainedBy (by catalog fuel) board catalog fuel f → e ≡ f
one_run laws by board catalog fuel well one e f p q = end_is e f (laws.boots by board catalog fuel one well (R.End e) (R.End f) p q)

own_name_one : (catalog : Catalog) (fuel : ℕ) → NameOne (own_choices catalog fuel)
own_name_one catalog fuel = record { peims = λ m one other f g. f ∙ sym g; drivers = λ pei earlier m one other f g. f ∙ sym g }

pub one_text : (Run : Explained → Type 0) → ((volumes : List VolumeEntry) (images : List (List ℕ)) (modules : List Module) (a b : List ℕ) → IsCatalogText volumes images modules a → IsCatalogText volumes images modules b → a ≡ b)
    → ((e f : Explained) → Run e → Run f → e ≡ f) → (images : List (List ℕ)) (catalog : Catalog) (a b : List ℕ) → IsExplanation Run images catalog a → IsExplanation Run images catalog b → a ≡ b
one_text Run texts runs images catalog a b p q =
    p.is ∙ ap (λ front. front ++ explained_text catalog.modules p.explained) (texts catalog.volumes images catalog.modules p.front q.front p.catalogue q.catalogue)
    ∙ ap (λ (e : Explained). q.front ++ explained_text catalog.modules e) (runs p.explained q.explained p.run q.run) ∙ sym q.is

pub one_report : Laws → (plan : Plan) (images : List (List ℕ)) → Each AreBytes images → IsOne (ExplainReport plan images)
one_report laws plan images are a b s t (faulty_image f p e u) (faulty_image g q h v) = (e ∙ sym h, u ∙ ap image_line (laws.plans.image_faults plan images f g are p q) ∙ sym v)
one_report laws plan images are a b s t (faulty_image f p e u) (explained_so c sound o h) = absurd (laws.plans.catalogue_or_fault plan images c f are sound p)
one_report laws plan images are a b s t (explained_so c sound o e) (faulty_image g q h v) = absurd (laws.plans.catalogue_or_fault plan images c g are sound q)
one_report laws plan images are a b s t (explained_so c sound o e) (explained_so d also u h) =
    let P : Catalog → Type 0 = λ x. IsExplanation (RunsItself plan images x) images x t in
    (e ∙ sym h, one_text (RunsItself plan images c) laws.texts (one_run laws own_choices (board_of plan c images) c plan.fuel (laws.well plan images c sound) (own_name_one c plan.fuel)) images c s t o (subst P (laws.plans.catalogues plan images d c also sound) u))
