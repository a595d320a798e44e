-- Worked boots of DXE at the bounds of the fuel and of the frames.
use Rattle.std.proofs.Common.{◌≡◌, ℕ, List, [], ◌∷◌, ◌++◌, None, refl, codes, flat_map, replicate}
use Prim.Native.String.{String}
use Rattle.std.specs.Fmt.{digits}
use Rattle.hex.specs.Hex.{encode_with}
use Rattle.uuid.specs.Text.{by_index}
use Rattle.depex_code.specs.Tree as T
use Rattle.pi_base.specs.{declared.word.Word.TheVariants.Success, WordText.word_text}
use Rattle.act_code.specs.declared.action.Action.TheVariants as A
use Rattle.mod_catalog.specs.declared.catalogue.Module.{Module}
use Rattle.boot_model.specs.Text.{keyword, licence_text, call_text, reason_text, end_text}
use Rattle.boot_model.proofs.WorkedBoots.{guid, held, driver, script, printed, opener, opener_listing, dxe_text_of, one_volume}

-- eight actions are the opener's, so of this driver one is taken, and prints nothing
abbrev spending : List Module
spending =
    opener
    ∷ driver 1 None (held T.True) (script (A.Set 0 5 ∷ A.DxeInstall 0 1 (guid 0x21) 0 ∷ A.Log (codes "a") ∷ A.SkipIf 0 1
    ∷ A.Log (codes "b") ∷ [])) ∷ []

spending_text : dxe_text_of (one_volume spending) 9 ≡ printed (
    "dxe volume 0"
    ∷ "dxe start 0 00000000-0000-0000-0000-000000000001 true"
    ∷ opener_listing ++ "handles 0"
    ∷ "result Spent" ∷ [])
unfolding digits by_index encode_with keyword word_text licence_text call_text reason_text end_text
spending_text = refl

-- a notification that reinstalls its protocol, and so calls itself
abbrev reinstalling : List Module
reinstalling =
    opener
    ∷ driver 1 None (held T.True) (
    (A.Set 0 5 ∷ A.DxeNotify (guid 0x21) 1 ∷ A.DxeInstall 0 1 (guid 0x21) 0 ∷ A.Ret Success ∷ [])
    ∷ (A.Log (codes "x") ∷ A.DxeReinstall 1 (guid 0x21) 0 0 ∷ A.Ret Success ∷ []) ∷ [])
    ∷ []

-- what it prints each time
abbrev one_call : List String
one_call = "notify protocol 0 00000000-0000-0000-0000-000000000001 00000000-0000-0000-0000-000000000021" ∷ "log x" ∷ "call reinstall Success" ∷ []

abbrev calls : ℕ → List String
calls n = flat_map (λ call. call) (replicate n one_call)

-- 136 actions end in the 63rd notification, before it reinstalls
just_spent : dxe_text_of (one_volume reinstalling) 136 ≡ printed (
    "dxe volume 0"
    ∷ "dxe start 0 00000000-0000-0000-0000-000000000001 true"
    ∷ "call notify Success"
    ∷ "call install Success 0x1"
    ∷ calls 62
    ++ "notify protocol 0 00000000-0000-0000-0000-000000000001 00000000-0000-0000-0000-000000000021" ∷ "log x" ∷ opener_listing ++ "handles 1"
    ∷ "handle 1 00000000-0000-0000-0000-000000000021 0x5"
    ∷ "result Spent" ∷ [])
unfolding digits by_index encode_with keyword word_text licence_text call_text reason_text end_text
just_spent = refl

-- one action more, and the 64th notification would be too deep: it prints nothing
just_deep : dxe_text_of (one_volume reinstalling) 137 ≡ printed (
    "dxe volume 0"
    ∷ "dxe start 0 00000000-0000-0000-0000-000000000001 true"
    ∷ "call notify Success"
    ∷ "call install Success 0x1"
    ∷ calls 63
    ++ opener_listing
    ++ "handles 1"
    ∷ "handle 1 00000000-0000-0000-0000-000000000021 0x5"
    ∷ "result Deep" ∷ [])
unfolding digits by_index encode_with keyword word_text licence_text call_text reason_text end_text
just_deep = refl
