-- Worked boots of notifications in PEI: which callbacks fire, in which order, and what stands in the queue.
use Rattle.std.proofs.Common.{◌≡◌, ℕ, List, [], ◌∷◌, ◌++◌, None, refl, codes}
use Prim.Native.String.{String}
use Rattle.std.specs.Fmt.{digits}
use Rattle.hex.specs.Hex.{encode_with}
use Rattle.uuid.specs.Text.{by_index}
use Rattle.pi_base.specs.{declared.guid.Guid.Guid, declared.known_guid.TheConstants.MEMORY_PPI, declared.word.Word.TheVariants.Success}
use Rattle.act_code.specs.declared.action.Action.{Action}
use Rattle.act_code.specs.declared.action.Action.TheVariants as A
use Rattle.act_code.specs.declared.action.GuidArg.TheVariants as G
use Rattle.mod_catalog.specs.{declared.catalogue.Module.Module, declared.catalogue.PartExpr.TheVariants.Absent}
use Rattle.pi_base.specs.WordText.{word_text}
use Rattle.boot_model.specs.Text.{keyword, licence_text, call_text, reason_text, end_text}
use Rattle.boot_model.proofs.WorkedBoots.{guid, board, one_volume, peim, memory_at, ppi_desc, pei_text, printed}

-- a descriptor of a callback and one of a dispatch notification, which run a block
abbrev callback_desc : ℕ → Guid → ℕ → Action
callback_desc d name block = A.Desc d 1 (G.Inline name) block

abbrev dispatch_desc : ℕ → Guid → ℕ → Action
dispatch_desc d name block = A.Desc d 2 (G.Inline name) block

-- blocks that log one word each
abbrev logs : String → List Action
logs word = A.Log (codes word) ∷ A.Ret Success ∷ []

-- each PPI of one call is met by each callback of its GUID that was there; a callback that comes later meets the PPIs that are there, and those before it meet none again; one PPI of two with the old descriptor is reinstalled
abbrev callbacks : List Module
callbacks =
    peim 0x0a None Absent (
    (A.Set 0 7 ∷ callback_desc 1 (guid 1) 1 ∷ callback_desc 2 (guid 2) 2 ∷ callback_desc 3 (guid 2) 3 ∷ A.Notify (1 ∷ 2 ∷ 3 ∷ [])
    ∷ ppi_desc 4 (guid 1) 0 ∷ ppi_desc 5 (guid 2) 0 ∷ A.Install (4 ∷ 1 ∷ []) ∷ A.Install (4 ∷ 5 ∷ [])
    ∷ callback_desc 6 (guid 2) 1 ∷ A.Notify (6 ∷ []) ∷ A.Install (4 ∷ [])
    ∷ ppi_desc 7 (guid 3) 0 ∷ A.Reinstall 4 7 ∷ A.Locate 8 9 (guid 1) 0 ∷ A.Locate 8 9 (guid 1) 1 ∷ A.Locate 8 9 (guid 3) 0 ∷ A.Locate 8 9 (guid 3) 1
    ∷ A.Ret Success ∷ []) ∷ logs "one" ∷ logs "two" ∷ logs "three" ∷ [])
    ∷ []

callbacks_text : pei_text board (one_volume callbacks) ≡ printed (
    "report 0"
    ∷ "pei start 0 00000000-0000-0000-0000-00000000000a absent"
    ∷ "call desc Success 0x80000040"
    ∷ "call desc Success 0x80000070"
    ∷ "call desc Success 0x800000a0"
    ∷ "call notify Success"
    ∷ "call desc Success 0x80000148"
    ∷ "call desc Success 0x80000178"
    ∷ "call install InvalidParameter"
    ∷ "call install Success"
    ∷ "notify callback 0 00000000-0000-0000-0000-00000000000a 00000000-0000-0000-0000-000000000001"
    ∷ "log one"
    ∷ "end Success"
    ∷ "notify callback 0 00000000-0000-0000-0000-00000000000a 00000000-0000-0000-0000-000000000002"
    ∷ "log two"
    ∷ "end Success"
    ∷ "notify callback 0 00000000-0000-0000-0000-00000000000a 00000000-0000-0000-0000-000000000002"
    ∷ "log three"
    ∷ "end Success"
    ∷ "call desc Success 0x800001f8"
    ∷ "call notify Success"
    ∷ "notify callback 0 00000000-0000-0000-0000-00000000000a 00000000-0000-0000-0000-000000000002"
    ∷ "log one"
    ∷ "end Success"
    ∷ "call install Success"
    ∷ "notify callback 0 00000000-0000-0000-0000-00000000000a 00000000-0000-0000-0000-000000000001"
    ∷ "log one"
    ∷ "end Success"
    ∷ "call desc Success 0x80000278"
    ∷ "call reinstall Success"
    ∷ "call locate Success 0x7"
    ∷ "call locate NotFound"
    ∷ "call locate Success 0x7"
    ∷ "call locate NotFound"
    ∷ "end Success"
    ∷ "pei stop" ∷ [])
unfolding digits by_index encode_with keyword word_text licence_text call_text reason_text end_text
callbacks_text = refl

-- the core's PPI of permanent memory is met by each callback of its GUID, and then its call is over: a callback of another GUID runs in the script that reinstalls the PPI, and no second time behind it
abbrev core_callbacks : List Module
core_callbacks =
    peim 0x0a None Absent (
    (callback_desc 1 MEMORY_PPI 1 ∷ callback_desc 2 MEMORY_PPI 2 ∷ callback_desc 3 (guid 5) 3 ∷ dispatch_desc 4 MEMORY_PPI 4 ∷ A.Notify (1 ∷ 2 ∷ 3 ∷ 4 ∷ [])
    ∷ memory_at 5 6 ++ A.Ret Success ∷ [])
    ∷ logs "one" ∷ logs "two" ∷ logs "three"
    ∷ (A.Locate 2 3 MEMORY_PPI 0 ∷ ppi_desc 4 (guid 5) 3 ∷ A.Reinstall 2 4 ∷ A.Ret Success ∷ []) ∷ [])
    ∷ []

core_callbacks_text : pei_text board (one_volume core_callbacks) ≡ printed (
    "report 0"
    ∷ "pei start 0 00000000-0000-0000-0000-00000000000a absent"
    ∷ "call desc Success 0x80000040"
    ∷ "call desc Success 0x80000070"
    ∷ "call desc Success 0x800000a0"
    ∷ "call desc Success 0x800000d0"
    ∷ "call notify Success"
    ∷ "call memory Success"
    ∷ "end Success"
    ∷ "migrate 0x80000000 0x40000000"
    ∷ "core install Success"
    ∷ "notify callback 0 00000000-0000-0000-0000-00000000000a f894643d-c449-42d1-8ea8-85bdd8c65bde"
    ∷ "log one"
    ∷ "end Success"
    ∷ "notify callback 0 00000000-0000-0000-0000-00000000000a f894643d-c449-42d1-8ea8-85bdd8c65bde"
    ∷ "log two"
    ∷ "end Success"
    ∷ "notify dispatch 0 00000000-0000-0000-0000-00000000000a f894643d-c449-42d1-8ea8-85bdd8c65bde"
    ∷ "call locate Success 0x0"
    ∷ "call desc Success 0x40000220"
    ∷ "call reinstall Success"
    ∷ "notify callback 0 00000000-0000-0000-0000-00000000000a 00000000-0000-0000-0000-000000000005"
    ∷ "log three"
    ∷ "end Success"
    ∷ "end Success"
    ∷ "pei stop" ∷ [])
unfolding digits by_index encode_with keyword word_text licence_text call_text reason_text end_text
core_callbacks_text = refl

-- two pairs are queued, the node of the first leads to that of the second, and they run in this order
abbrev queue : List Module
queue =
    peim 0x0a None Absent (
    (dispatch_desc 1 (guid 1) 1 ∷ dispatch_desc 2 (guid 1) 2 ∷ A.Notify (1 ∷ 2 ∷ []) ∷ A.Set 0 7 ∷ ppi_desc 3 (guid 1) 0 ∷ A.Install (3 ∷ [])
    ∷ A.Set 4 0x80000148 ∷ A.Peek 4 32 ∷ A.Set 4 0x80000170 ∷ A.Peek 4 32 ∷ A.Ret Success ∷ []) ∷ logs "one" ∷ logs "two" ∷ [])
    ∷ []

queue_text : pei_text board (one_volume queue) ≡ printed (
    "report 0"
    ∷ "pei start 0 00000000-0000-0000-0000-00000000000a absent"
    ∷ "call desc Success 0x80000040"
    ∷ "call desc Success 0x80000070"
    ∷ "call notify Success"
    ∷ "call desc Success 0x800000f0"
    ∷ "call install Success"
    ∷ "call peek Success 70010080000000004000008000000000f0000080000000000000000000000000"
    ∷ "call peek Success 00000000000000007000008000000000f0000080000000000000000000000000"
    ∷ "end Success"
    ∷ "notify dispatch 0 00000000-0000-0000-0000-00000000000a 00000000-0000-0000-0000-000000000001"
    ∷ "log one"
    ∷ "end Success"
    ∷ "notify dispatch 0 00000000-0000-0000-0000-00000000000a 00000000-0000-0000-0000-000000000001"
    ∷ "log two"
    ∷ "end Success"
    ∷ "pei stop" ∷ [])
unfolding digits by_index encode_with keyword word_text licence_text call_text reason_text end_text
queue_text = refl
