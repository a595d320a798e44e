-- Worked boots of discovery: FV HOBs, process, and nested volumes.
use Rattle.std.proofs.Common.{◌≡◌, List, [], ◌∷◌, ◌++◌, Some, None, refl, codes}
use Rattle.std.specs.Fmt.{digits}
use Rattle.hex.specs.Hex.{encode_with}
use Rattle.uuid.specs.Text.{by_index}
use Rattle.depex_code.specs.Tree as T
use Rattle.pi_base.specs.{Field.little_bytes, WordText.word_text}
use Rattle.act_code.specs.declared.action.Action.TheVariants as A
use Rattle.boot_model.specs.declared.known_guid.TheConstants.{FILE_SYSTEM2, ARCHITECTURAL}
use Rattle.pi_base.specs.declared.known_guid.TheConstants.{VOLUME_INFO_PPI, MEMORY_PPI, DXE_IPL_PPI}
use Rattle.mod_catalog.specs.declared.catalogue.PartExpr.TheVariants.{Absent, Malformed}
use Rattle.mod_catalog.specs.{declared.catalogue.Catalog.Catalog, declared.catalogue.Module.Module}
use Rattle.boot_model.specs.BootRun.{boot_lines}
use Rattle.boot_model.specs.Text.{text_of, keyword, licence_text, call_text, reason_text, end_text}
use Rattle.boot_model.proofs.WorkedBoots.{installs_on_one, guid, board, fuel, held, on_request, before, after, peim, driver, in_volume, volume, script, printed, opener, opener_with, opener_listing, volume_hob, dxe_text_of, ppi_desc}

-- two volumes, and one nested in the second
abbrev three_volumes : List Module → Catalog
three_volumes modules = record { volumes = volume 0xfff00000 None ∷ volume 0xff000000 None ∷ volume 0xff000064 (Some 1) ∷ []; modules = modules }

-- process discovers a volume and those nested in it, and their a priori drivers stand behind what is scheduled
abbrev process : List Module
process =
    opener
    ∷ driver 1 None (held T.True) (script (A.Set 0 0xff000000 ∷ A.Process 0 ∷ A.Process 0 ∷ A.Set 0 0xff000064 ∷ A.Process 0
    ∷ A.Set 0 0x1000 ∷ A.Process 0 ∷ []))
    ∷ driver 2 None (after 1) (script [])
    ∷ driver 3 None (before 0x14) []
    ∷ driver 7 None (after 0x13) []
    ∷ in_volume 1 (driver 0x12 (Some 1) (held T.False) (script []))
    ∷ in_volume 1 (driver 0x13 (Some 0) (on_request T.False) (script []))
    ∷ in_volume 1 (driver 0x14 None (held T.True) (script []))
    ∷ in_volume 1 (driver 0x15 None (after 0x11) [])
    ∷ in_volume 2 (driver 0x11 (Some 0) (before 1) (script [])) ∷ []

process_text : dxe_text_of (three_volumes process) fuel ≡ printed (
    "dxe volume 0"
    ∷ "dxe start 0 00000000-0000-0000-0000-000000000001 true"
    ∷ "call process Success"
    ∷ "dxe volume 1"
    ∷ "dxe volume 2"
    ∷ "call process AlreadyStarted"
    ∷ "call process AlreadyStarted"
    ∷ "call process NotFound"
    ∷ "end Success"
    ∷ "dxe start 0 00000000-0000-0000-0000-000000000002 after"
    ∷ "end Success"
    ∷ "dxe start 1 00000000-0000-0000-0000-000000000013 apriori"
    ∷ "end Success"
    ∷ "dxe start 1 00000000-0000-0000-0000-000000000012 apriori"
    ∷ "end Success"
    ∷ "dxe start 2 00000000-0000-0000-0000-000000000011 apriori"
    ∷ "end Success"
    ∷ "dxe start 0 00000000-0000-0000-0000-000000000003 before"
    ∷ "end Success"
    ∷ "dxe start 1 00000000-0000-0000-0000-000000000014 true"
    ∷ "end Success"
    ∷ "dxe stop"
    ∷ "waiting 0 00000000-0000-0000-0000-000000000007 after"
    ∷ "waiting 1 00000000-0000-0000-0000-000000000015 after"
    ∷ opener_listing ++ "handles 0"
    ∷ "result Done" ∷ [])
unfolding digits by_index encode_with keyword word_text licence_text call_text reason_text end_text
process_text = refl

-- a nested volume may be processed first; its parent later comes without it
abbrev process_nested : List Module
process_nested =
    opener
    ∷ driver 1 None (held T.True) (script (A.Set 0 0xff000064 ∷ A.Process 0 ∷ A.Set 0 0xff000000 ∷ A.Process 0 ∷ []))
    ∷ in_volume 1 (driver 0x12 (Some 0) (Malformed 2) [])
    ∷ in_volume 2 (driver 0x11 (Some 0) (on_request T.True) []) ∷ []

process_nested_text : dxe_text_of (three_volumes process_nested) fuel ≡ printed (
    "dxe volume 0"
    ∷ "dxe start 0 00000000-0000-0000-0000-000000000001 true"
    ∷ "call process Success"
    ∷ "dxe volume 2"
    ∷ "call process Success"
    ∷ "dxe volume 1"
    ∷ "end Success"
    ∷ "dxe start 2 00000000-0000-0000-0000-000000000011 apriori"
    ∷ "end Success"
    ∷ "dxe start 1 00000000-0000-0000-0000-000000000012 apriori"
    ∷ "end Success"
    ∷ "dxe stop"
    ∷ opener_listing ++ "handles 0"
    ∷ "result Done" ∷ [])
unfolding digits by_index encode_with keyword word_text licence_text call_text reason_text end_text
process_nested_text = refl

-- volumes are discovered in order of their HOBs, each once; a HOB of another base tells of none
abbrev volume_hobs : List Module
volume_hobs =
    opener_with (volume_hob 0xff000064 0x1000 ∷ volume_hob 0xff000000 0x1000 ∷ volume_hob 0xfff00000 0x1000 ∷ volume_hob 0x1234 0x1000 ∷ volume_hob 0xff000064 0x1000 ∷ [])
    ∷ in_volume 1 (driver 0x12 None Absent (script []))
    ∷ in_volume 2 (driver 0x11 None (held T.False) (script [])) ∷ []

volume_hobs_text : dxe_text_of (three_volumes volume_hobs) fuel ≡ printed (
    "dxe volume 0"
    ∷ "dxe volume 2"
    ∷ "dxe volume 1"
    ∷ "dxe stop"
    ∷ "waiting 2 00000000-0000-0000-0000-000000000011 false"
    ∷ "waiting 1 00000000-0000-0000-0000-000000000012 absent"
    ∷ "ppis 2"
    ∷ "ppi 0 0ae8ce5d-e448-4437-a8d7-ebf5f194f731 0x0"
    ∷ "ppi core f894643d-c449-42d1-8ea8-85bdd8c65bde 0x0"
    ∷ "callbacks 0"
    ∷ "dispatches 0"
    ∷ "pendings 0"
    ∷ "hobs 11"
    ∷ "hob 1 090000000000000000001040000000000000004000000000000010400000000080010040000000007801004000000000"
    ∷ "hob 7 1000008000000000580000400000000000000000000000005dcee80a48e43744a8d7ebf5f194f731"
    ∷ "hob 7 5801004000000000400000400000000000000000000000000000000000000000"
    ∷ "hob 5 0000f0ff000000000010000000000000"
    ∷ "hob 5 640000ff000000000010000000000000"
    ∷ "hob 5 000000ff000000000010000000000000"
    ∷ "hob 5 0000f0ff000000000010000000000000"
    ∷ "hob 5 34120000000000000010000000000000"
    ∷ "hob 5 640000ff000000000010000000000000"
    ∷ "hob 7 1000008000000000400100400000000000000000000000003d6494f849c4d1428ea885bdd8c65bde"
    ∷ "hob 7 000000000000000028010040000000000000000000000000ffffffff00000000"
    ∷ "handles 0"
    ∷ "result Done" ∷ [])
unfolding digits by_index encode_with keyword word_text licence_text call_text reason_text end_text
volume_hobs_text = refl

-- a PPI tells of a second volume, in which a third is nested
abbrev first_peim : Module
first_peim = peim 0x0a None Absent (script (
    A.Pool 6 48 ∷ A.Store 6 0 FILE_SYSTEM2.0 ∷ A.Store 6 16 (little_bytes 8 0xff000000) ∷ A.Store 6 24 (little_bytes 4 0x100000) ∷ A.Addr 7 6 0
    ∷ ppi_desc 8 VOLUME_INFO_PPI 7 ∷ A.Install (8 ∷ []) ∷ volume_hob 0xff800000 0x800000 ∷ volume_hob 0xff000000 0x100000
    ∷ A.Set 4 0 ∷ ppi_desc 9 DXE_IPL_PPI 4 ∷ A.Install (9 ∷ []) ∷ A.Set 10 0x40000000 ∷ A.Set 11 0x2000000 ∷ A.Memory 10 11 ∷ []))

-- PEI in two volumes, and drivers in all three: one waits for a protocol of another, and one for all architectural protocols
abbrev realistic : Catalog
realistic = record {
  volumes = volume 0xff800000 None ∷ volume 0xff000000 None ∷ volume 0xff000100 (Some 1) ∷ [];
  modules =
      first_peim
      ∷ driver 1 None Absent []
      ∷ in_volume 1 (peim 0x0c None (held (T.Push MEMORY_PPI)) (script (A.Log (codes "second") ∷ [])))
      ∷ in_volume 1 (driver 2 None (held (T.Push (guid 0x21))) (script (A.Set 0 0 ∷ installs_on_one ARCHITECTURAL)))
      ∷ in_volume 2 (driver 3 None (held T.True) (script (A.Set 0 0 ∷ A.DxeInstall 0 1 (guid 0x21) 0 ∷ [])))
      ∷ [];
}

realistic_text : text_of (boot_lines board realistic fuel) ≡ printed (
    "report 0"
    ∷ "pei start 0 00000000-0000-0000-0000-00000000000a absent"
    ∷ "call pool Success 0x80000040"
    ∷ "call store Success"
    ∷ "call store Success"
    ∷ "call store Success"
    ∷ "call desc Success 0x80000078"
    ∷ "call install Success"
    ∷ "report 1"
    ∷ "report 2"
    ∷ "call hob Success 0x800000c8"
    ∷ "call hob Success 0x800000e0"
    ∷ "call desc Success 0x80000100"
    ∷ "call install Success"
    ∷ "call memory Success"
    ∷ "end Success"
    ∷ "migrate 0x80000000 0x40000000"
    ∷ "core install Success"
    ∷ "pei start 1 00000000-0000-0000-0000-00000000000c true"
    ∷ "log second"
    ∷ "end Success"
    ∷ "pei stop"
    ∷ "handoff 0x40000000"
    ∷ "dxe volume 0"
    ∷ "dxe volume 1"
    ∷ "dxe volume 2"
    ∷ "dxe start 2 00000000-0000-0000-0000-000000000003 true"
    ∷ "call install Success 0x1"
    ∷ "end Success"
    ∷ "dxe start 1 00000000-0000-0000-0000-000000000002 true"
    ∷ "call install Success 0x2"
    ∷ "call install Success"
    ∷ "call install Success"
    ∷ "call install Success"
    ∷ "call install Success"
    ∷ "call install Success"
    ∷ "call install Success"
    ∷ "call install Success"
    ∷ "call install Success"
    ∷ "call install Success"
    ∷ "call install Success"
    ∷ "call install Success"
    ∷ "call install Success"
    ∷ "end Success"
    ∷ "dxe start 0 00000000-0000-0000-0000-000000000001 absent"
    ∷ "end Success"
    ∷ "dxe stop"
    ∷ "ppis 3"
    ∷ "ppi 0 49edb1c1-bf21-4761-bb12-eb0031aabb39 0x40000040"
    ∷ "ppi 0 0ae8ce5d-e448-4437-a8d7-ebf5f194f731 0x0"
    ∷ "ppi core f894643d-c449-42d1-8ea8-85bdd8c65bde 0x0"
    ∷ "callbacks 0"
    ∷ "dispatches 0"
    ∷ "pendings 0"
    ∷ "hobs 10"
    ∷ "hob 1 0900000000000000000000420000000000000040000000000000004200000000b001004000000000a801004000000000"
    ∷ "hob 7 78e58c8c3d8a1c4f9935896185c32dd3000000ff00000000000010000000000000000000000000000000000000000000"
    ∷ "hob 7 100000800000000090000040000000004000004000000000c1b1ed4921bf6147bb12eb0031aabb39"
    ∷ "hob 7 3001004000000000780000400000000000000000000000000000000000000000"
    ∷ "hob 5 000080ff000000000000800000000000"
    ∷ "hob 5 000000ff000000000000100000000000"
    ∷ "hob 7 1000008000000000180100400000000000000000000000005dcee80a48e43744a8d7ebf5f194f731"
    ∷ "hob 7 8801004000000000000100400000000000000000000000000000000000000000"
    ∷ "hob 7 1000008000000000700100400000000000000000000000003d6494f849c4d1428ea885bdd8c65bde"
    ∷ "hob 7 000000000000000058010040000000000000000000000000ffffffff00000000"
    ∷ "handles 14"
    ∷ "handle 1 00000000-0000-0000-0000-000000000021 0x0"
    ∷ "handle 2 a46423e3-4617-49f1-b9ff-d1bfa9115839 0x0"
    ∷ "handle 2 26baccb1-6f42-11d4-bce7-0080c73c8881 0x0"
    ∷ "handle 2 26baccb2-6f42-11d4-bce7-0080c73c8881 0x0"
    ∷ "handle 2 26baccb3-6f42-11d4-bce7-0080c73c8881 0x0"
    ∷ "handle 2 665e3ff6-46cc-11d4-9a38-0090273fc14d 0x0"
    ∷ "handle 2 665e3ff5-46cc-11d4-9a38-0090273fc14d 0x0"
    ∷ "handle 2 b7dfb4e1-052f-449f-87be-9818fc91b733 0x0"
    ∷ "handle 2 1e5668e2-8481-11d4-bcf1-0080c73c8881 0x0"
    ∷ "handle 2 6441f818-6362-4e44-b570-7dba31dd2453 0x0"
    ∷ "handle 2 5053697e-2cbc-4819-90d9-0580deee5754 0x0"
    ∷ "handle 2 1da97072-bddc-4b30-99f1-72a0b56fff2a 0x0"
    ∷ "handle 2 27cfac88-46cc-11d4-9a38-0090273fc14d 0x0"
    ∷ "handle 2 27cfac87-46cc-11d4-9a38-0090273fc14d 0x0"
    ∷ "result Done" ∷ [])
unfolding digits by_index encode_with keyword word_text licence_text call_text reason_text end_text
realistic_text = refl
