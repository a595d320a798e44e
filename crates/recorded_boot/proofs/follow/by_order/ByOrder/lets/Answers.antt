use Rattle.std.proofs.Common.{◌≡◌, ℕ, Bool, Option, Some, ap, sym, ◌∙◌, slice_get, rules}
use Rattle.pi_base.specs.declared.phase.Phase.{Phase}
use Rattle.mod_catalog.specs.declared.catalogue.Catalog.{Catalog}
use Rattle.recorded_boot.specs.{declared.order.line.AskedStart.AskedStart, declared.order.lines.StartOrder.StartOrder}
use Rattle.recorded_boot.specs.ByOrder.{is_start_of, lets_asked, lets_by}
use Rattle.recorded_boot.proofs.follow.by_order.ByOrder.lets.Goals as goal

-- where a line asks for a start, the module of that start is let
by_line : (catalog : Catalog) (order : StartOrder) (phase : Phase) (starts number : ℕ) (found : Option AskedStart) (asked : AskedStart) (lets : Bool) → found ≡ slice_get order.starts starts → found ≡ Some asked → lets ≡ is_start_of catalog phase number asked.start → lets ≡ lets_by catalog order phase starts number
by_line catalog order phase starts number found asked lets there is same = same ∙ ap (λ line. lets_asked catalog phase order.stop line number) (sym is ∙ there)

pub returns-in-Some : goal.returns-in-Some
returns-in-Some c = by_line c.args.self.now.catalog.now c.args.self.now.order.now c.args.phase c.args.starts c.args.number c.asked_behind.result _ _ c.asked_behind.ensures c.in-Some.is (search rules depth 1)
