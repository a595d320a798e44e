-- What a part of a module needs: each GUID that its expression asks for, and who has it installed.
-- Own.
use Rattle.std.specs.Prelude.{List, map}
use Rattle.pi_base.specs.{declared.guid.Guid.Guid, declared.phase.Phase.Phase}
use Rattle.mod_catalog.specs.declared.catalogue.PartExpr.{PartExpr}
use Rattle.boot_reasons.specs.Asked.{asked}
use Rattle.explain_text.specs.{declared.reasons.Giver.Giver, declared.reasons.Need.Need}

abbrev pub need_of : (Guid → Giver) → Guid → Need
need_of giver guid = record { guid = guid; giver = giver guid }

abbrev pub needs_of : (Guid → Giver) → Phase → PartExpr → List Need
needs_of giver phase expr = map (need_of giver) (asked phase expr)
