-- Worked boots of drivers that wait for a request: SOR and `Schedule()`.
use Rattle.std.proofs.Common.{◌≡◌, List, [], ◌∷◌, ◌++◌, Some, None, refl, codes}
use Rattle.std.specs.Fmt.{digits}
use Rattle.hex.specs.Hex.{encode_with}
use Rattle.uuid.specs.Text.{by_index}
use Rattle.depex_code.specs.Tree as T
use Rattle.act_code.specs.declared.action.Action.TheVariants as A
use Rattle.mod_catalog.specs.{declared.catalogue.Module.Module, declared.catalogue.PartExpr.TheVariants.Malformed}
use Rattle.pi_base.specs.WordText.{word_text}
use Rattle.boot_model.specs.Text.{keyword, licence_text, call_text, reason_text, end_text}
use Rattle.boot_model.proofs.WorkedBoots.{guid, held, on_request, before, after, driver, script, printed, opener, opener_listing, dxe_text}

-- a request is granted once, and only to a driver that asks for it
abbrev requests : List Module
requests =
    opener
    ∷ driver 1 None (held T.True) (script (A.Schedule (guid 2) ∷ A.Schedule (guid 2) ∷ A.Schedule (guid 3) ∷ []))
    ∷ driver 2 None (on_request T.True) []
    ∷ driver 3 None (held T.False) [] ∷ []

requests_text : dxe_text requests ≡ printed (
    "dxe volume 0"
    ∷ "dxe start 0 00000000-0000-0000-0000-000000000001 true"
    ∷ "call schedule Success"
    ∷ "call schedule NotFound"
    ∷ "call schedule NotFound"
    ∷ "end Success"
    ∷ "dxe start 0 00000000-0000-0000-0000-000000000002 true"
    ∷ "end Success"
    ∷ "dxe stop"
    ∷ "waiting 0 00000000-0000-0000-0000-000000000003 false"
    ∷ opener_listing ++ "handles 0"
    ∷ "result Done" ∷ [])
unfolding digits by_index encode_with keyword word_text licence_text call_text reason_text end_text
requests_text = refl

-- two drivers of one name are requested one after the other; an a priori driver needs no request; each driver that waits tells its own reason
abbrev dependents : List Module
dependents =
    opener
    ∷ driver 1 None (held T.True) (script (A.Schedule (guid 5) ∷ A.Schedule (guid 6) ∷ A.Schedule (guid 5) ∷ A.Schedule (guid 5)
    ∷ A.Schedule (guid 9) ∷ A.Schedule (guid 8) ∷ []))
    ∷ driver 5 None (on_request T.True) (script (A.Log (codes "first") ∷ []))
    ∷ driver 5 None (on_request T.True) (script (A.Log (codes "second") ∷ []))
    ∷ driver 6 None (on_request (T.Push (guid 0x21))) []
    ∷ driver 7 None (on_request T.True) []
    ∷ driver 8 None (Malformed 2) []
    ∷ driver 9 (Some 0) (on_request T.False) []
    ∷ driver 0x0b None (after 9) []
    ∷ driver 0x0c None (before 5) [] ∷ []

dependents_text : dxe_text dependents ≡ printed (
    "dxe volume 0"
    ∷ "dxe start 0 00000000-0000-0000-0000-000000000009 apriori"
    ∷ "end Success"
    ∷ "dxe start 0 00000000-0000-0000-0000-000000000001 true"
    ∷ "call schedule Success"
    ∷ "call schedule Success"
    ∷ "call schedule Success"
    ∷ "call schedule NotFound"
    ∷ "call schedule NotFound"
    ∷ "call schedule NotFound"
    ∷ "end Success"
    ∷ "dxe start 0 00000000-0000-0000-0000-00000000000c before"
    ∷ "end Success"
    ∷ "dxe start 0 00000000-0000-0000-0000-000000000005 true"
    ∷ "log first"
    ∷ "end Success"
    ∷ "dxe start 0 00000000-0000-0000-0000-000000000005 true"
    ∷ "log second"
    ∷ "end Success"
    ∷ "dxe stop"
    ∷ "waiting 0 00000000-0000-0000-0000-000000000006 false"
    ∷ "waiting 0 00000000-0000-0000-0000-000000000007 unrequested"
    ∷ "waiting 0 00000000-0000-0000-0000-000000000008 malformed"
    ∷ "waiting 0 00000000-0000-0000-0000-00000000000b after"
    ∷ opener_listing ++ "handles 0"
    ∷ "result Done" ∷ [])
unfolding digits by_index encode_with keyword word_text licence_text call_text reason_text end_text
dependents_text = refl

-- of two drivers of one name one request is for the first alone
abbrev request_of_two : List Module
request_of_two =
    opener
    ∷ driver 1 None (held T.True) (script (A.Schedule (guid 5) ∷ []))
    ∷ driver 5 None (on_request T.True) (script (A.Log (codes "first") ∷ []))
    ∷ driver 5 None (on_request T.True) (script (A.Log (codes "second") ∷ [])) ∷ []

request_of_two_text : dxe_text request_of_two ≡ printed (
    "dxe volume 0"
    ∷ "dxe start 0 00000000-0000-0000-0000-000000000001 true"
    ∷ "call schedule Success"
    ∷ "end Success"
    ∷ "dxe start 0 00000000-0000-0000-0000-000000000005 true"
    ∷ "log first"
    ∷ "end Success"
    ∷ "dxe stop"
    ∷ "waiting 0 00000000-0000-0000-0000-000000000005 unrequested"
    ∷ opener_listing ++ "handles 0"
    ∷ "result Done" ∷ [])
unfolding digits by_index encode_with keyword word_text licence_text call_text reason_text end_text
request_of_two_text = refl
