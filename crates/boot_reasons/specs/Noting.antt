-- Who has which GUIDs installed, as it is kept along a run.
-- Own.
use Rattle.std.specs.Prelude.{◌≡◌, ⊤, Bool, if◌then◌else◌, List, unwrap_or}
use Rattle.pi_base.specs.{GuidMap.value_of, declared.guid.Guid.Guid}
use Rattle.boot_laws.specs.ChangedGuids.{is_among}
use Rattle.explain_text.specs.declared.reasons.Giver.{Giver}
use Rattle.explain_text.specs.declared.reasons.Giver.TheVariants.{Core, Module, Absent}

-- one that is not nobody
abbrev pub IsPresent : Giver → Type 0
IsPresent Core = ⊤
IsPresent (Module number) = ⊤
IsPresent Absent = ⊥

-- the one who had it before, and where nobody had, the one who made the step
abbrev pub giver_or : Giver → Giver → Giver
giver_or Core actor = Core
giver_or (Module number) actor = Module number
giver_or Absent actor = actor

-- who has a GUID installed behind a step
abbrev pub giver_behind : Giver → Bool → Giver → Giver
giver_behind before there actor = if there then giver_or before actor else Absent

-- who has it, as it is kept
abbrev pub giver_in : List (Guid × Giver) → Guid → Giver
giver_in map guid = unwrap_or (value_of map guid) Absent

-- behind a step of which these GUIDs were noted
abbrev pub AreNoted : (Guid → Bool) → Giver → List Guid → List (Guid × Giver) → List (Guid × Giver) → Type 0
AreNoted has actor guids old new =
    (guid : Guid) → giver_in new guid ≡ (if is_among guid guids then giver_behind (giver_in old guid) (has guid) actor else giver_in old guid)
