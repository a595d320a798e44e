-- The starts of an order name one module at most, where no volume has two modules of one name; and no boot by them is left before a start.
use Rattle.std.proofs.Common.{◌≡◌, ℕ, Bool, true, false, true≢false, Option, Some, None, refl, sym, ap, ◌∙◌, slice_get}
use Rattle.pi_base.specs.{declared.phase.Phase.Phase, declared.phase.Phase.TheVariants.Pei, declared.phase.Phase.TheVariants.Dxe}
use Rattle.mod_catalog.specs.declared.catalogue.Catalog.{Catalog}
use Rattle.boot_core.specs.Choices.{NameOne}
use Rattle.boot_reasons.specs.Explained.{IsLeftBefore, left_in_dxe, left_in_pei}
use Rattle.recorded_boot.proofs.Modules.{one_module}
use Rattle.recorded_boot.specs.{Named.HasNoTwins, declared.order.line.AskedStart.AskedStart, declared.order.line.Start.Start}
use Rattle.recorded_boot.specs.ByOrder.{IsNumberOf, NamesAsked, NamesNext, NamesStart, same_phase}
use Rattle.store_model.specs.StoreState.{Board}
use Rattle.recorded_boot.specs.declared.order.lines.StartOrder.{StartOrder}
use Rattle.tools_core.specs.ToldReport.{start_choices}

one_number : (catalog : Catalog) (start : Start) (a b : Option ℕ) → HasNoTwins catalog → IsNumberOf catalog start a → IsNumberOf catalog start b → a ≡ b
one_number catalog start None None apart f g = refl
one_number catalog start None (Some b) apart f g = absurd (f b g)
one_number catalog start (Some a) None apart f g = absurd (g a f)
one_number catalog start (Some a) (Some b) apart f g = ap (λ n. Some n) (one_module catalog start.volume start.name a b apart f g)

one_start : (catalog : Catalog) (start : Start) (ours : Bool) (a b : Option ℕ) → HasNoTwins catalog → NamesStart ours catalog start a → NamesStart ours catalog start b → a ≡ b
one_start catalog start true a b apart f g = one_number catalog start a b apart f g
one_start catalog start false a b apart f g = f ∙ sym g

one_next : (catalog : Catalog) (phase : Phase) (asked : Option AskedStart) (a b : Option ℕ) → HasNoTwins catalog → NamesNext catalog phase asked a → NamesNext catalog phase asked b → a ≡ b
one_next catalog phase None a b apart f g = f ∙ sym g
one_next catalog phase (Some asked) a b apart f g = one_start catalog asked.start (same_phase asked.start.phase phase) a b apart f g

one_asked : (catalog : Catalog) (phase : Phase) (order : StartOrder) (starts : ℕ) (a b : Option ℕ) → HasNoTwins catalog → NamesAsked catalog phase order starts a → NamesAsked catalog phase order starts b → a ≡ b
one_asked catalog phase order starts a b apart f g = one_next catalog phase (slice_get order.starts starts) a b apart f g

pub name_one : (catalog : Catalog) (fuel : ℕ) (order : StartOrder) → HasNoTwins catalog → NameOne (start_choices catalog fuel order)
name_one catalog fuel order apart = record {
  peims = λ m a b f g. one_asked catalog Pei order _ a b apart f g;
  drivers = λ pei earlier m a b f g. one_asked catalog Dxe order _ a b apart f g;
}

-- each start is let
pub never_left : (catalog : Catalog) (order : StartOrder) (board : Board) (fuel number : ℕ) → IsLeftBefore (start_choices catalog fuel order) board catalog fuel number → ⊥
never_left catalog order board fuel number (left_in_pei earlier m is) = true≢false is.barred
never_left catalog order board fuel number (left_in_dxe earlier pei run handed over is) = true≢false is.barred
