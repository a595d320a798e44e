-- A worked boot that reads memory in DXE.
use Rattle.std.proofs.Common.{◌≡◌, List, [], ◌∷◌, None, refl}
use Rattle.std.specs.Fmt.{digits}
use Rattle.hex.specs.Hex.{encode_with}
use Rattle.uuid.specs.Text.{by_index}
use Rattle.depex_code.specs.Tree as T
use Rattle.act_code.specs.declared.action.Action.TheVariants as A
use Rattle.mod_catalog.specs.declared.catalogue.Module.{Module}
use Rattle.pi_base.specs.WordText.{word_text}
use Rattle.boot_model.specs.Text.{keyword, licence_text, call_text, reason_text, end_text}
use Rattle.boot_model.proofs.WorkedBoots.{held, driver, script, printed, opener_with, dxe_text}

-- a read finds the bytes of the store's memory: the first HOB at the new heap, nothing where temporary RAM was, and the last bytes of RAM
abbrev peek : List Module
peek =
    opener_with (A.Pool 8 8 ∷ A.Store 8 0 (1 ∷ 2 ∷ 3 ∷ 4 ∷ 5 ∷ 6 ∷ 7 ∷ 8 ∷ []) ∷ [])
    ∷ driver 1 None (held T.True) (script (A.Set 0 0x40000000 ∷ A.Peek 0 64 ∷ A.Set 0 0x80000000 ∷ A.Peek 0 8 ∷ A.Peek 9 8
    ∷ A.Set 0 0x43fffff8 ∷ A.Peek 0 8 ∷ A.Peek 0 9 ∷ [])) ∷ []

peek_text : dxe_text peek ≡ printed (
    "dxe volume 0"
    ∷ "dxe start 0 00000000-0000-0000-0000-000000000001 true"
    ∷ "call peek Success 01003800000000000900000000000000000010400000000000000040000000000000104000000000180100400000000010010040000000000700300000000000"
    ∷ "call peek NotFound"
    ∷ "call peek InvalidParameter"
    ∷ "call peek Success 0000000000000000"
    ∷ "call peek NotFound"
    ∷ "end Success"
    ∷ "dxe stop"
    ∷ "ppis 2"
    ∷ "ppi 0 0ae8ce5d-e448-4437-a8d7-ebf5f194f731 0x0"
    ∷ "ppi core f894643d-c449-42d1-8ea8-85bdd8c65bde 0x0"
    ∷ "callbacks 0"
    ∷ "dispatches 0"
    ∷ "pendings 0"
    ∷ "hobs 7"
    ∷ "hob 1 090000000000000000001040000000000000004000000000000010400000000018010040000000001001004000000000"
    ∷ "hob 7 1000008000000000580000400000000000000000000000005dcee80a48e43744a8d7ebf5f194f731"
    ∷ "hob 7 f000004000000000400000400000000000000000000000000000000000000000"
    ∷ "hob 5 0000f0ff000000000010000000000000"
    ∷ "hob 7 0102030405060708"
    ∷ "hob 7 1000008000000000d80000400000000000000000000000003d6494f849c4d1428ea885bdd8c65bde"
    ∷ "hob 7 0000000000000000c0000040000000000000000000000000ffffffff00000000"
    ∷ "handles 0"
    ∷ "result Done" ∷ [])
unfolding digits by_index encode_with keyword word_text licence_text call_text reason_text end_text
peek_text = refl
