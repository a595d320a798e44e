-- Worked boots of companions: BEFORE and AFTER.
use Rattle.std.proofs.Common.{◌≡◌, List, [], ◌∷◌, ◌++◌, Some, None, refl}
use Rattle.std.specs.Fmt.{digits}
use Rattle.hex.specs.Hex.{encode_with}
use Rattle.uuid.specs.Text.{by_index}
use Rattle.depex_code.specs.Tree as T
use Rattle.act_code.specs.declared.action.Action.TheVariants as A
use Rattle.mod_catalog.specs.{declared.catalogue.Module.Module, declared.catalogue.PartExpr.TheVariants.Absent}
use Rattle.pi_base.specs.WordText.{word_text}
use Rattle.boot_model.specs.Text.{keyword, licence_text, call_text, reason_text, end_text}
use Rattle.boot_model.proofs.WorkedBoots.{guid, held, before, after, peim, driver, script, printed, opener, opener_listing, dxe_text}

-- a group is scheduled whole: those before the driver, the driver, those after it, each with its own companions, and starts even where what the driver waited for is gone
abbrev companions : List Module
companions =
    opener
    ∷ driver 6 None (held T.True) (script (A.Set 0 0x55 ∷ A.DxeInstall 0 1 (guid 0x21) 0 ∷ []))
    ∷ driver 1 None (held (T.Push (guid 0x21))) []
    ∷ driver 2 None (before 1) (script (A.DxeLocate 0 1 (guid 0x21) ∷ A.DxeUninstall 0 (guid 0x21) 1 ∷ []))
    ∷ driver 3 None (after 1) []
    ∷ driver 4 None (before 3) [] ∷ []

companions_text : dxe_text companions ≡ printed (
    "dxe volume 0"
    ∷ "dxe start 0 00000000-0000-0000-0000-000000000006 true"
    ∷ "call install Success 0x1"
    ∷ "end Success"
    ∷ "dxe start 0 00000000-0000-0000-0000-000000000002 before"
    ∷ "call locate Success 0x55"
    ∷ "call uninstall Success"
    ∷ "end Success"
    ∷ "dxe start 0 00000000-0000-0000-0000-000000000001 true"
    ∷ "end Success"
    ∷ "dxe start 0 00000000-0000-0000-0000-000000000004 before"
    ∷ "end Success"
    ∷ "dxe start 0 00000000-0000-0000-0000-000000000003 after"
    ∷ "end Success"
    ∷ "dxe stop"
    ∷ opener_listing ++ "handles 0"
    ∷ "result Done" ∷ [])
unfolding digits by_index encode_with keyword word_text licence_text call_text reason_text end_text
companions_text = refl

-- drivers on a cycle, and the companion of an a priori driver, wait for ever
abbrev cycle : List Module
cycle =
    opener
    ∷ driver 1 None (before 2) []
    ∷ driver 2 None (before 1) []
    ∷ driver 3 None (after 4) []
    ∷ driver 4 (Some 0) (held T.False) [] ∷ []

cycle_text : dxe_text cycle ≡ printed (
    "dxe volume 0"
    ∷ "dxe start 0 00000000-0000-0000-0000-000000000004 apriori"
    ∷ "end Success"
    ∷ "dxe stop"
    ∷ "waiting 0 00000000-0000-0000-0000-000000000001 before"
    ∷ "waiting 0 00000000-0000-0000-0000-000000000002 before"
    ∷ "waiting 0 00000000-0000-0000-0000-000000000003 after"
    ∷ opener_listing ++ "handles 0"
    ∷ "result Done" ∷ [])
unfolding digits by_index encode_with keyword word_text licence_text call_text reason_text end_text
cycle_text = refl

-- the driver of a name is the first of that name in discovered order, and never a PEIM; a driver before itself waits for ever
abbrev namesakes : List Module
namesakes =
    opener
    ∷ peim 1 None Absent (script [])
    ∷ driver 2 None (after 1) []
    ∷ driver 1 None (held (T.Push (guid 0x21))) []
    ∷ driver 1 None (held T.True) []
    ∷ driver 3 None (before 1) []
    ∷ driver 4 None (held T.True) (script (A.Set 0 0 ∷ A.DxeInstall 0 1 (guid 0x21) 0 ∷ []))
    ∷ driver 5 None (before 5) []
    ∷ driver 6 None (after 2) []
    ∷ driver 7 None (before 2) [] ∷ []

namesakes_text : dxe_text namesakes ≡ printed (
    "dxe volume 0"
    ∷ "dxe start 0 00000000-0000-0000-0000-000000000001 true"
    ∷ "end Success"
    ∷ "dxe start 0 00000000-0000-0000-0000-000000000004 true"
    ∷ "call install Success 0x1"
    ∷ "end Success"
    ∷ "dxe start 0 00000000-0000-0000-0000-000000000003 before"
    ∷ "end Success"
    ∷ "dxe start 0 00000000-0000-0000-0000-000000000001 true"
    ∷ "end Success"
    ∷ "dxe start 0 00000000-0000-0000-0000-000000000007 before"
    ∷ "end Success"
    ∷ "dxe start 0 00000000-0000-0000-0000-000000000002 after"
    ∷ "end Success"
    ∷ "dxe start 0 00000000-0000-0000-0000-000000000006 after"
    ∷ "end Success"
    ∷ "dxe stop"
    ∷ "waiting 0 00000000-0000-0000-0000-000000000005 before"
    ∷ opener_listing ++ "handles 1"
    ∷ "handle 1 00000000-0000-0000-0000-000000000021 0x0"
    ∷ "result Done" ∷ [])
unfolding digits by_index encode_with keyword word_text licence_text call_text reason_text end_text
namesakes_text = refl

-- the driver of a name is the first one also where it has started: a companion of an a priori driver waits, and does not come with a later driver of that name
abbrev started_namesake : List Module
started_namesake =
    opener
    ∷ driver 1 (Some 0) (held T.False) []
    ∷ driver 1 None (held T.True) []
    ∷ driver 2 None (after 1) [] ∷ []

started_namesake_text : dxe_text started_namesake ≡ printed (
    "dxe volume 0"
    ∷ "dxe start 0 00000000-0000-0000-0000-000000000001 apriori"
    ∷ "end Success"
    ∷ "dxe start 0 00000000-0000-0000-0000-000000000001 true"
    ∷ "end Success"
    ∷ "dxe stop"
    ∷ "waiting 0 00000000-0000-0000-0000-000000000002 after"
    ∷ opener_listing ++ "handles 0"
    ∷ "result Done" ∷ [])
unfolding digits by_index encode_with keyword word_text licence_text call_text reason_text end_text
started_namesake_text = refl
