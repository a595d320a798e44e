-- Worked boots of handles and protocol notifications.
use Rattle.std.proofs.Common.{◌≡◌, List, [], ◌∷◌, ◌++◌, None, refl, codes}
use Rattle.std.specs.Fmt.{digits}
use Rattle.hex.specs.Hex.{encode_with}
use Rattle.uuid.specs.Text.{by_index}
use Rattle.depex_code.specs.Tree as T
use Rattle.pi_base.specs.{declared.word.Word.TheVariants.Success, declared.word.Word.TheVariants.NotFound, WordText.word_text}
use Rattle.act_code.specs.declared.action.Action.TheVariants as A
use Rattle.mod_catalog.specs.declared.catalogue.Module.{Module}
use Rattle.boot_model.specs.Text.{keyword, licence_text, call_text, reason_text, end_text}
use Rattle.boot_model.proofs.WorkedBoots.{guid, held, driver, script, printed, opener, opener_listing, dxe_text}

-- each handle service once, and what process and dispatch refuse
abbrev handles : List Module
handles =
    opener
    ∷ driver 1 None (held T.True) ((A.Set 0 5 ∷ A.Set 1 6 ∷ A.DxeInstall 0 2 (guid 0x21) 0 ∷ A.DxeInstall 1 2 (guid 0x21) 1
    ∷ A.DxeUninstall 2 (guid 0x22) 0 ∷ A.DxeNotify (guid 0x21) 1 ∷ A.DxeReinstall 2 (guid 0x21) 0 1 ∷ A.Set 3 0x1000 ∷ A.Process 3
    ∷ A.Set 3 0xfff00000 ∷ A.Process 3 ∷ A.Dispatch ∷ A.Ret Success ∷ []) ∷ (A.Ret Success ∷ []) ∷ []) ∷ []

handles_text : dxe_text handles ≡ printed (
    "dxe volume 0"
    ∷ "dxe start 0 00000000-0000-0000-0000-000000000001 true"
    ∷ "call install Success 0x1"
    ∷ "call install InvalidParameter"
    ∷ "call uninstall NotFound"
    ∷ "call notify Success"
    ∷ "call reinstall Success"
    ∷ "notify protocol 0 00000000-0000-0000-0000-000000000001 00000000-0000-0000-0000-000000000021"
    ∷ "end Success"
    ∷ "call process NotFound"
    ∷ "call process AlreadyStarted"
    ∷ "call dispatch AlreadyStarted"
    ∷ "end Success"
    ∷ "dxe stop"
    ∷ opener_listing ++ "handles 1"
    ∷ "handle 1 00000000-0000-0000-0000-000000000021 0x6"
    ∷ "result Done" ∷ [])
unfolding digits by_index encode_with keyword word_text licence_text call_text reason_text end_text
handles_text = refl

-- each row of the handle services; a handle without interfaces is not live, and its number is not given again
abbrev handle_services : List Module
handle_services =
    opener
    ∷ driver 1 None (held T.True) (script (A.Set 0 5 ∷ A.Set 1 6 ∷ A.DxeInstall 0 2 (guid 0x21) 0 ∷ A.DxeInstall 0 3 (guid 0x21) 1
    ∷ A.DxeInstall 1 2 (guid 0x22) 0 ∷ A.DxeInstall 1 2 (guid 0x23) 1 ∷ A.DxeReinstall 2 (guid 0x21) 0 1 ∷ A.DxeReinstall 2 (guid 0x21) 0 1
    ∷ A.DxeLocate 4 5 (guid 0x21) ∷ A.DxeUninstall 2 (guid 0x22) 0 ∷ A.DxeUninstall 2 (guid 0x22) 0 ∷ A.DxeInstall 1 2 (guid 0x22) 1
    ∷ A.DxeInstall 0 4 (guid 0x24) 0 ∷ A.DxeUninstall 4 (guid 0x24) 1 ∷ A.DxeUninstall 4 (guid 0x24) 0 ∷ A.DxeInstall 1 4 (guid 0x24) 0
    ∷ A.DxeReinstall 4 (guid 0x24) 0 0 ∷ A.DxeUninstall 4 (guid 0x24) 0 ∷ A.DxeLocate 6 7 (guid 0x24) ∷ A.DxeInstall 0 6 (guid 0x25) 0
    ∷ A.Add 0 0xffffffffffffffff ∷ A.Add 0 3 ∷ A.DxeInstall 1 6 (guid 0x26) 0 ∷ A.Add 6 1 ∷ A.DxeInstall 0 7 (guid 0x27) 6 ∷ A.SkipIf 0 1
    ∷ A.DxeInstall 0 0 (guid 0x27) 0 ∷ A.SkipIf 1 1 ∷ A.Log (codes "no") ∷ A.DxeLocate 9 9 (guid 0x25) ∷ A.DxeInstall 0 9 (guid 0x28) 9
    ∷ A.DxeLocate 9 9 (guid 0x99) ∷ A.SkipIf 1 1 ∷ A.Log (codes "yes") ∷ [])) ∷ []

handle_services_text : dxe_text handle_services ≡ printed (
    "dxe volume 0"
    ∷ "dxe start 0 00000000-0000-0000-0000-000000000001 true"
    ∷ "call install Success 0x1"
    ∷ "call install Success 0x2"
    ∷ "call install Success"
    ∷ "call install Success"
    ∷ "call reinstall Success"
    ∷ "call reinstall NotFound"
    ∷ "call locate Success 0x6"
    ∷ "call uninstall Success"
    ∷ "call uninstall NotFound"
    ∷ "call install Success"
    ∷ "call install Success 0x3"
    ∷ "call uninstall NotFound"
    ∷ "call uninstall Success"
    ∷ "call install InvalidParameter"
    ∷ "call reinstall InvalidParameter"
    ∷ "call uninstall InvalidParameter"
    ∷ "call locate NotFound"
    ∷ "call install Success 0x4"
    ∷ "call install Success"
    ∷ "call install InvalidParameter"
    ∷ "call install Success 0x5"
    ∷ "log no"
    ∷ "call locate Success 0x5"
    ∷ "call install Success 0x6"
    ∷ "call locate NotFound"
    ∷ "end Success"
    ∷ "dxe stop"
    ∷ opener_listing ++ "handles 8"
    ∷ "handle 1 00000000-0000-0000-0000-000000000021 0x6"
    ∷ "handle 1 00000000-0000-0000-0000-000000000023 0x6"
    ∷ "handle 1 00000000-0000-0000-0000-000000000022 0x6"
    ∷ "handle 2 00000000-0000-0000-0000-000000000021 0x6"
    ∷ "handle 4 00000000-0000-0000-0000-000000000025 0x5"
    ∷ "handle 4 00000000-0000-0000-0000-000000000026 0x7"
    ∷ "handle 5 00000000-0000-0000-0000-000000000027 0x7"
    ∷ "handle 6 00000000-0000-0000-0000-000000000028 0x5"
    ∷ "result Done" ∷ [])
unfolding digits by_index encode_with keyword word_text licence_text call_text reason_text end_text
handle_services_text = refl

-- the lowest live handle is located, whichever got the protocol first
abbrev lowest_handle : List Module
lowest_handle =
    opener
    ∷ driver 1 None (held T.True) (script (A.Set 0 5 ∷ A.Set 1 6 ∷ A.DxeInstall 0 2 (guid 0x22) 0 ∷ A.DxeInstall 0 3 (guid 0x21) 1
    ∷ A.DxeInstall 1 2 (guid 0x21) 0 ∷ A.DxeLocate 4 5 (guid 0x21) ∷ A.DxeUninstall 4 (guid 0x21) 5
    ∷ A.DxeLocate 4 5 (guid 0x21) ∷ [])) ∷ []

lowest_handle_text : dxe_text lowest_handle ≡ printed (
    "dxe volume 0"
    ∷ "dxe start 0 00000000-0000-0000-0000-000000000001 true"
    ∷ "call install Success 0x1"
    ∷ "call install Success 0x2"
    ∷ "call install Success"
    ∷ "call locate Success 0x5"
    ∷ "call uninstall Success"
    ∷ "call locate Success 0x6"
    ∷ "end Success"
    ∷ "dxe stop"
    ∷ opener_listing ++ "handles 2"
    ∷ "handle 1 00000000-0000-0000-0000-000000000022 0x5"
    ∷ "handle 2 00000000-0000-0000-0000-000000000021 0x6"
    ∷ "result Done" ∷ [])
unfolding digits by_index encode_with keyword word_text licence_text call_text reason_text end_text
lowest_handle_text = refl

-- an install and a reinstall call each notification of the protocol that was registered before, in order; their frame holds the interface and the handle; an uninstall calls none
abbrev notifications : List Module
notifications =
    opener
    ∷ driver 1 None (held T.True) ((A.DxeNotify (guid 0x21) 1 ∷ A.DxeNotify (guid 0x22) 1 ∷ A.DxeNotify (guid 0x21) 2
    ∷ A.Ret Success ∷ []) ∷ (A.Log (codes "one") ∷ A.DxeNotify (guid 0x21) 2 ∷ A.DxeInstall 0 2 (guid 0x23) 0
    ∷ A.DxeInstall 1 1 (guid 0x24) 0 ∷ A.Ret Success ∷ []) ∷ (A.Log (codes "two") ∷ A.DxeUninstall 1 (guid 0x21) 0
    ∷ A.Ret NotFound ∷ []) ∷ [])
    ∷ driver 2 None (held T.True) (script (A.Set 0 7 ∷ A.DxeInstall 0 1 (guid 0x21) 0 ∷ A.DxeInstall 1 1 (guid 0x21) 0 ∷ A.Set 5 9
    ∷ A.DxeInstall 1 1 (guid 0x22) 5 ∷ A.DxeReinstall 1 (guid 0x22) 5 0 ∷ A.DxeUninstall 1 (guid 0x22) 0 ∷ A.DxeInstall 1 1 (guid 0x22) 5
    ∷ A.Log (codes "end") ∷ [])) ∷ []

notifications_text : dxe_text notifications ≡ printed (
    "dxe volume 0"
    ∷ "dxe start 0 00000000-0000-0000-0000-000000000001 true"
    ∷ "call notify Success"
    ∷ "call notify Success"
    ∷ "call notify Success"
    ∷ "end Success"
    ∷ "dxe start 0 00000000-0000-0000-0000-000000000002 true"
    ∷ "call install Success 0x1"
    ∷ "notify protocol 0 00000000-0000-0000-0000-000000000001 00000000-0000-0000-0000-000000000021"
    ∷ "log one"
    ∷ "call notify Success"
    ∷ "call install Success 0x2"
    ∷ "call install Success"
    ∷ "end Success"
    ∷ "notify protocol 0 00000000-0000-0000-0000-000000000001 00000000-0000-0000-0000-000000000021"
    ∷ "log two"
    ∷ "call uninstall Success"
    ∷ "end NotFound"
    ∷ "call install Success"
    ∷ "notify protocol 0 00000000-0000-0000-0000-000000000001 00000000-0000-0000-0000-000000000021"
    ∷ "log one"
    ∷ "call notify Success"
    ∷ "call install Success 0x3"
    ∷ "call install InvalidParameter"
    ∷ "end Success"
    ∷ "notify protocol 0 00000000-0000-0000-0000-000000000001 00000000-0000-0000-0000-000000000021"
    ∷ "log two"
    ∷ "call uninstall Success"
    ∷ "end NotFound"
    ∷ "notify protocol 0 00000000-0000-0000-0000-000000000001 00000000-0000-0000-0000-000000000021"
    ∷ "log two"
    ∷ "call uninstall NotFound"
    ∷ "end NotFound"
    ∷ "call install Success"
    ∷ "notify protocol 0 00000000-0000-0000-0000-000000000001 00000000-0000-0000-0000-000000000022"
    ∷ "log one"
    ∷ "call notify Success"
    ∷ "call install Success 0x4"
    ∷ "call install InvalidParameter"
    ∷ "end Success"
    ∷ "call reinstall Success"
    ∷ "notify protocol 0 00000000-0000-0000-0000-000000000001 00000000-0000-0000-0000-000000000022"
    ∷ "log one"
    ∷ "call notify Success"
    ∷ "call install Success 0x5"
    ∷ "call install InvalidParameter"
    ∷ "end Success"
    ∷ "call uninstall Success"
    ∷ "call install Success"
    ∷ "notify protocol 0 00000000-0000-0000-0000-000000000001 00000000-0000-0000-0000-000000000022"
    ∷ "log one"
    ∷ "call notify Success"
    ∷ "call install Success 0x6"
    ∷ "call install InvalidParameter"
    ∷ "end Success"
    ∷ "log end"
    ∷ "end Success"
    ∷ "dxe stop"
    ∷ opener_listing ++ "handles 7"
    ∷ "handle 1 00000000-0000-0000-0000-000000000024 0x7"
    ∷ "handle 1 00000000-0000-0000-0000-000000000022 0x9"
    ∷ "handle 2 00000000-0000-0000-0000-000000000023 0x7"
    ∷ "handle 3 00000000-0000-0000-0000-000000000023 0x7"
    ∷ "handle 4 00000000-0000-0000-0000-000000000023 0x9"
    ∷ "handle 5 00000000-0000-0000-0000-000000000023 0x7"
    ∷ "handle 6 00000000-0000-0000-0000-000000000023 0x9"
    ∷ "result Done" ∷ [])
unfolding digits by_index encode_with keyword word_text licence_text call_text reason_text end_text
notifications_text = refl
