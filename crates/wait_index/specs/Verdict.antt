-- Whether a part may start, as far as its rank and its expression go.
use Rattle.std.specs.Prelude.{ℕ, Bool, true, false, if◌then◌else◌, Option, Some, None, is_some}
use Rattle.std.specs.List.{list_all}
use Rattle.pi_base.specs.{declared.guid.Guid.Guid, declared.phase.Phase.Phase}
use Rattle.pi_base.specs.declared.phase.Phase.TheVariants.{Pei, Dxe}
use Rattle.boot_model.specs.{declared.known_guid.TheConstants.ARCHITECTURAL, Eligible.depex_holds}
use Rattle.mod_catalog.specs.{declared.catalogue.Catalog.Catalog, declared.catalogue.Part.Part, declared.catalogue.PartExpr.PartExpr}
use Rattle.mod_catalog.specs.declared.catalogue.PartExpr.TheVariants as E
use Rattle.mod_catalog.specs.Parts.{part_at}
use Rattle.wait_index.specs.declared.verdict.Verdict.{Verdict}
use Rattle.wait_index.specs.declared.verdict.Verdict.TheVariants.{No, Yes, WithAll}

abbrev pub verdict_by : Bool → Verdict
verdict_by true = Yes
verdict_by false = No

-- without an expression a PEIM may start, and a driver may once all architectural protocols are installed
abbrev pub absent_verdict : Phase → Verdict
absent_verdict Pei = Yes
absent_verdict Dxe = WithAll

abbrev pub expression_verdict : Phase → (Guid → Bool) → PartExpr → Verdict
expression_verdict phase has E.Absent = absent_verdict phase
expression_verdict phase has (E.Malformed at) = No
expression_verdict phase has (E.Held expression) = verdict_by (depex_holds has expression)

-- a PEIM with a rank may start whatever its expression says
abbrev pub part_verdict : Phase → (Guid → Bool) → Part → Verdict
part_verdict Pei has part = if is_some part.rank then Yes else expression_verdict Pei has part.expr
part_verdict Dxe has part = expression_verdict Dxe has part.expr

abbrev pub verdict_in : Phase → (Guid → Bool) → Option Part → Verdict
verdict_in phase has None = No
verdict_in phase has (Some part) = part_verdict phase has part

abbrev pub verdict_of : Phase → Catalog → (Guid → Bool) → ℕ → Verdict
verdict_of phase catalog has number = verdict_in phase has (part_at phase catalog number)

-- whether a verdict allows a start, if all architectural protocols are installed or not
abbrev pub lets : Bool → Verdict → Bool
lets all No = false
lets all Yes = true
lets all WithAll = all

abbrev pub has_all : (Guid → Bool) → Bool
has_all has = list_all has ARCHITECTURAL

-- whether a part may start, as far as its rank and its expression go
abbrev pub holds_by : Phase → (Guid → Bool) → Option Part → Bool
holds_by phase has part = lets (has_all has) (verdict_in phase has part)
