-- Worked boots of drivers without expression: the architectural protocols.
use Rattle.std.proofs.Common.{◌≡◌, List, [], ◌∷◌, ◌++◌, None, refl, take, drop}
use Rattle.std.specs.Fmt.{digits}
use Rattle.hex.specs.Hex.{encode_with}
use Rattle.uuid.specs.Text.{by_index}
use Rattle.depex_code.specs.Tree as T
use Rattle.pi_base.specs.{declared.guid.Guid.Guid, WordText.word_text}
use Rattle.act_code.specs.declared.action.Action.TheVariants as A
use Rattle.boot_model.specs.declared.known_guid.TheConstants.{ARCHITECTURAL}
use Rattle.mod_catalog.specs.{declared.catalogue.PartExpr.TheVariants.Absent, declared.catalogue.Module.Module}
use Rattle.boot_model.specs.Text.{keyword, licence_text, call_text, reason_text, end_text}
use Rattle.boot_model.proofs.WorkedBoots.{installs_on_one, held, before, after, driver, script, printed, opener, opener_listing, dxe_text}

-- a driver without expression waits for all thirteen architectural protocols: twelve do not suffice
abbrev twelve : List Module
twelve =
    opener
    ∷ driver 1 None Absent []
    ∷ driver 2 None (held T.True) (script (A.Set 0 0 ∷ installs_on_one (take 12 ARCHITECTURAL)))
    ∷ driver 3 None Absent [] ∷ []

twelve_text : dxe_text twelve ≡ printed (
    "dxe volume 0"
    ∷ "dxe start 0 00000000-0000-0000-0000-000000000002 true"
    ∷ "call install Success 0x1"
    ∷ "call install Success"
    ∷ "call install Success"
    ∷ "call install Success"
    ∷ "call install Success"
    ∷ "call install Success"
    ∷ "call install Success"
    ∷ "call install Success"
    ∷ "call install Success"
    ∷ "call install Success"
    ∷ "call install Success"
    ∷ "call install Success"
    ∷ "end Success"
    ∷ "dxe stop"
    ∷ "waiting 0 00000000-0000-0000-0000-000000000001 absent"
    ∷ "waiting 0 00000000-0000-0000-0000-000000000003 absent"
    ∷ opener_listing ++ "handles 12"
    ∷ "handle 1 a46423e3-4617-49f1-b9ff-d1bfa9115839 0x0"
    ∷ "handle 1 26baccb1-6f42-11d4-bce7-0080c73c8881 0x0"
    ∷ "handle 1 26baccb2-6f42-11d4-bce7-0080c73c8881 0x0"
    ∷ "handle 1 26baccb3-6f42-11d4-bce7-0080c73c8881 0x0"
    ∷ "handle 1 665e3ff6-46cc-11d4-9a38-0090273fc14d 0x0"
    ∷ "handle 1 665e3ff5-46cc-11d4-9a38-0090273fc14d 0x0"
    ∷ "handle 1 b7dfb4e1-052f-449f-87be-9818fc91b733 0x0"
    ∷ "handle 1 1e5668e2-8481-11d4-bcf1-0080c73c8881 0x0"
    ∷ "handle 1 6441f818-6362-4e44-b570-7dba31dd2453 0x0"
    ∷ "handle 1 5053697e-2cbc-4819-90d9-0580deee5754 0x0"
    ∷ "handle 1 1da97072-bddc-4b30-99f1-72a0b56fff2a 0x0"
    ∷ "handle 1 27cfac88-46cc-11d4-9a38-0090273fc14d 0x0"
    ∷ "result Done" ∷ [])
unfolding digits by_index encode_with keyword word_text licence_text call_text reason_text end_text
twelve_text = refl

-- the fourth of them
abbrev timer : Guid
timer = record { 0 = 0xb3 ∷ 0xcc ∷ 0xba ∷ 0x26 ∷ 0x42 ∷ 0x6f ∷ 0xd4 ∷ 0x11 ∷ 0xbc ∷ 0xe7 ∷ 0x00 ∷ 0x80 ∷ 0xc7 ∷ 0x3c ∷ 0x88 ∷ 0x81 ∷ [] }

-- the thirteen on two handles suffice, and the group that was scheduled starts though its first driver takes one away; the next driver without expression waits again
abbrev thirteen : List Module
thirteen =
    opener
    ∷ driver 1 None Absent []
    ∷ driver 2 None (held T.True) (script (A.Set 0 0 ∷ installs_on_one (take 12 ARCHITECTURAL)))
    ∷ driver 3 None Absent []
    ∷ driver 5 None (after 3) []
    ∷ driver 4 None (held T.True) (script (A.Set 0 0 ∷ installs_on_one (drop 12 ARCHITECTURAL)))
    ∷ driver 6 None (before 1) (script (A.DxeLocate 0 1 timer ∷ A.DxeUninstall 0 timer 1 ∷ [])) ∷ []

thirteen_text : dxe_text thirteen ≡ printed (
    "dxe volume 0"
    ∷ "dxe start 0 00000000-0000-0000-0000-000000000002 true"
    ∷ "call install Success 0x1"
    ∷ "call install Success"
    ∷ "call install Success"
    ∷ "call install Success"
    ∷ "call install Success"
    ∷ "call install Success"
    ∷ "call install Success"
    ∷ "call install Success"
    ∷ "call install Success"
    ∷ "call install Success"
    ∷ "call install Success"
    ∷ "call install Success"
    ∷ "end Success"
    ∷ "dxe start 0 00000000-0000-0000-0000-000000000004 true"
    ∷ "call install Success 0x2"
    ∷ "end Success"
    ∷ "dxe start 0 00000000-0000-0000-0000-000000000006 before"
    ∷ "call locate Success 0x0"
    ∷ "call uninstall Success"
    ∷ "end Success"
    ∷ "dxe start 0 00000000-0000-0000-0000-000000000001 absent"
    ∷ "end Success"
    ∷ "dxe stop"
    ∷ "waiting 0 00000000-0000-0000-0000-000000000003 absent"
    ∷ "waiting 0 00000000-0000-0000-0000-000000000005 after"
    ∷ opener_listing ++ "handles 12"
    ∷ "handle 1 a46423e3-4617-49f1-b9ff-d1bfa9115839 0x0"
    ∷ "handle 1 26baccb1-6f42-11d4-bce7-0080c73c8881 0x0"
    ∷ "handle 1 26baccb2-6f42-11d4-bce7-0080c73c8881 0x0"
    ∷ "handle 1 665e3ff6-46cc-11d4-9a38-0090273fc14d 0x0"
    ∷ "handle 1 665e3ff5-46cc-11d4-9a38-0090273fc14d 0x0"
    ∷ "handle 1 b7dfb4e1-052f-449f-87be-9818fc91b733 0x0"
    ∷ "handle 1 1e5668e2-8481-11d4-bcf1-0080c73c8881 0x0"
    ∷ "handle 1 6441f818-6362-4e44-b570-7dba31dd2453 0x0"
    ∷ "handle 1 5053697e-2cbc-4819-90d9-0580deee5754 0x0"
    ∷ "handle 1 1da97072-bddc-4b30-99f1-72a0b56fff2a 0x0"
    ∷ "handle 1 27cfac88-46cc-11d4-9a38-0090273fc14d 0x0"
    ∷ "handle 2 27cfac87-46cc-11d4-9a38-0090273fc14d 0x0"
    ∷ "result Done" ∷ [])
unfolding digits by_index encode_with keyword word_text licence_text call_text reason_text end_text
thirteen_text = refl
