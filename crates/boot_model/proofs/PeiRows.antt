-- Worked boots that end in PEI: what is printed, whole, by the definitions.
use Rattle.std.proofs.Common.{◌≡◌, List, [], ◌∷◌, ◌++◌, Some, None, refl, codes, replicate}
use Rattle.std.specs.Fmt.{digits}
use Rattle.hex.specs.Hex.{encode_with}
use Rattle.uuid.specs.Text.{by_index}
use Rattle.pi_base.specs.{declared.word.Word.TheVariants.Success, declared.word.Word.TheVariants.OutOfResources, WordText.word_text}
use Rattle.depex_code.specs.Tree as T
use Rattle.act_code.specs.declared.action.Action.TheVariants as A
use Rattle.act_code.specs.declared.action.GuidArg.TheVariants as G
use Rattle.mod_catalog.specs.{declared.catalogue.Module.Module, declared.catalogue.PartExpr.TheVariants.Absent}
use Rattle.boot_model.specs.declared.known_guid.TheConstants.{FILE_SYSTEM2}
use Rattle.boot_model.specs.Text.{keyword, licence_text, call_text, reason_text, end_text}
use Rattle.phys_mem.specs.declared.rom.Rom.{Rom}
use Rattle.store_model.specs.StoreState.{Board}
use Rattle.boot_model.proofs.WorkedBoots.{guid, board, held, peim, script, memory_at, ppi_desc, boot_text}

abbrev smallest : List Module
smallest = peim 0x0a None Absent (script (A.Log (codes "a") ∷ [])) ∷ []

smallest_run : boot_text board smallest ≡ codes "report 0\npei start 0 00000000-0000-0000-0000-00000000000a absent\nlog a\nend Success\npei stop\nppis 0\ncallbacks 0\ndispatches 0\npendings 0\nhobs 1\nhob 1 090000000000000000000180000000000000008000000000000001800000000040000080000000003800008000000000\nhandles 0\nresult NoMemory\n"
unfolding digits by_index encode_with keyword word_text licence_text call_text reason_text end_text
smallest_run = refl

abbrev rotation : List Module
rotation =
    peim 0x0a None (held (T.Push (guid 1))) []
    ∷ peim 0x0b None Absent (script (A.Set 0 0 ∷ ppi_desc 1 (guid 1) 0 ∷ A.Install (1 ∷ []) ∷ []))
    ∷ peim 0x0c None Absent [] ∷ []

rotation_text : boot_text board rotation ≡ codes "report 0\npei start 0 00000000-0000-0000-0000-00000000000b absent\ncall desc Success 0x80000040\ncall install Success\nend Success\npei start 0 00000000-0000-0000-0000-00000000000c absent\nend Success\npei start 0 00000000-0000-0000-0000-00000000000a true\nend Success\npei stop\nppis 1\nppi 1 00000000-0000-0000-0000-000000000001 0x0\ncallbacks 0\ndispatches 0\npendings 0\nhobs 3\nhob 1 090000000000000000000180000000000000008000000000000001800000000098000080000000009000008000000000\nhob 7 10000080000000005800008000000000000000000000000000000000000000000000000000000001\nhob 7 0000000000000000400000800000000000000000000000000100000000000000\nhandles 0\nresult NoMemory\n"
unfolding digits by_index encode_with keyword word_text licence_text call_text reason_text end_text
rotation_text = refl

abbrev a_priori : List Module
a_priori = peim 0x0a None Absent [] ∷ peim 0x0b (Some 0) (held T.False) [] ∷ []

a_priori_text : boot_text board a_priori ≡ codes "report 0\npei start 0 00000000-0000-0000-0000-00000000000b apriori\nend Success\npei start 0 00000000-0000-0000-0000-00000000000a absent\nend Success\npei stop\nppis 0\ncallbacks 0\ndispatches 0\npendings 0\nhobs 1\nhob 1 090000000000000000000180000000000000008000000000000001800000000040000080000000003800008000000000\nhandles 0\nresult NoMemory\n"
unfolding digits by_index encode_with keyword word_text licence_text call_text reason_text end_text
a_priori_text = refl

-- one descriptor with two names, and one whose GUID stands in a volume
abbrev shared : List Module
shared =
    peim 0x0a None Absent (script (
    A.Set 0 0x1234 ∷ ppi_desc 1 (guid 1) 0 ∷ A.Install (1 ∷ []) ∷ A.Install (1 ∷ [])
    ∷ A.Set 2 0xfff00010 ∷ A.Desc 3 0 (G.Register 2) 0 ∷ A.Install (3 ∷ []) ∷ memory_at 4 5))
    ∷ peim 0x0b None Absent (script (
    A.Set 0 0x40000040 ∷ A.Peek 0 40 ∷ A.Set 0 0x40000070 ∷ A.Peek 0 32 ∷ A.Set 0 0x400000c0 ∷ A.Peek 0 24 ∷ []))
    ∷ []

-- the first bytes of a volume: sixteen zeros and the file system's GUID
abbrev volume_front : Rom
volume_front = record { base = 0xfff00000; bytes = replicate 16 0 ++ FILE_SYSTEM2.0 ++ replicate 32 0 }

shared_text : boot_text (record board { roms = volume_front ∷ [] }) shared ≡ codes "report 0\npei start 0 00000000-0000-0000-0000-00000000000a absent\ncall desc Success 0x80000040\ncall install Success\ncall install Success\ncall desc Success 0x800000c0\ncall install Success\ncall memory Success\nend Success\nmigrate 0x80000000 0x40000000\ncore install Success\npei start 0 00000000-0000-0000-0000-00000000000b absent\ncall peek Success 10000080000000005800004000000000341200000000000000000000000000000000000000000001\ncall peek Success 9800004000000000400000400000000000000000000000000000000000000000\ncall peek Success 10000080000000001000f0ff000000003412000000000000\nend Success\npei stop\nppis 4\nppi 0 00000000-0000-0000-0000-000000000001 0x1234\nppi 0 00000000-0000-0000-0000-000000000001 0x1234\nppi 0 8c8ce578-8a3d-4f1c-9935-896185c32dd3 0x1234\nppi core f894643d-c449-42d1-8ea8-85bdd8c65bde 0x0\ncallbacks 0\ndispatches 0\npendings 0\nhobs 8\nhob 1 090000000000000000001040000000000000004000000000000010400000000060010040000000005801004000000000\nhob 7 10000080000000005800004000000000341200000000000000000000000000000000000000000001\nhob 7 9800004000000000400000400000000000000000000000000000000000000000\nhob 7 e000004000000000400000400000000000000000000000000000000000000000\nhob 7 10000080000000001000f0ff000000003412000000000000\nhob 7 3801004000000000c00000400000000000000000000000000000000000000000\nhob 7 1000008000000000200100400000000000000000000000003d6494f849c4d1428ea885bdd8c65bde\nhob 7 000000000000000008010040000000000000000000000000ffffffff00000000\nhandles 0\nresult NoIpl\n"
unfolding digits by_index encode_with keyword word_text licence_text call_text reason_text end_text
shared_text = refl

-- a dispatch notification is queued before the move and runs after it
abbrev queued : List Module
queued =
    peim 0x0a None Absent (
    (A.Set 0 7 ∷ A.Desc 1 2 (G.Inline (guid 1)) 1 ∷ A.Notify (1 ∷ []) ∷ ppi_desc 2 (guid 1) 0 ∷ A.Install (2 ∷ []) ∷ memory_at 4 5 ++ A.Ret Success ∷ [])
    ∷ (A.Log (codes "n") ∷ A.Ret Success ∷ []) ∷ [])
    ∷ []

queued_text : boot_text board queued ≡ codes "report 0\npei start 0 00000000-0000-0000-0000-00000000000a absent\ncall desc Success 0x80000040\ncall notify Success\ncall desc Success 0x80000098\ncall install Success\ncall memory Success\nend Success\nmigrate 0x80000000 0x40000000\ncore install Success\nnotify dispatch 0 00000000-0000-0000-0000-00000000000a 00000000-0000-0000-0000-000000000001\nlog n\nend Success\npei stop\nppis 2\nppi 0 00000000-0000-0000-0000-000000000001 0x7\nppi core f894643d-c449-42d1-8ea8-85bdd8c65bde 0x0\ncallbacks 0\ndispatches 1\ndispatch 00000000-0000-0000-0000-000000000001 0 1\npendings 0\nhobs 8\nhob 1 090000000000000000001040000000000000004000000000000010400000000070010040000000006801004000000000\nhob 7 40000080000000005800004000000000010000000000000000000000000000000000000000000001\nhob 7 0000000000000000400000400000000000000000000000000000000000000000\nhob 7 1000008000000000b000004000000000070000000000000000000000000000000000000000000001\nhob 7 4801004000000000980000400000000000000000000000000000000000000000\nhob 7 0000000000000000000000000000000000000000000000000000000000000000\nhob 7 1000008000000000300100400000000000000000000000003d6494f849c4d1428ea885bdd8c65bde\nhob 7 000000000000000018010040000000000000000000000000ffffffff00000000\nhandles 0\nresult NoIpl\n"
unfolding digits by_index encode_with keyword word_text licence_text call_text reason_text end_text
queued_text = refl

-- a PPI's value in the heap moves, and a pool's bytes that look like one stay
abbrev like_pointers : List Module
like_pointers =
    peim 0x0a None Absent (script (
    A.Set 0 0x80000123 ∷ ppi_desc 1 (guid 1) 0 ∷ A.Pool 2 8 ∷ A.Store 2 0 (0x23 ∷ 0x01 ∷ 0 ∷ 0x80 ∷ 0 ∷ 0 ∷ 0 ∷ 0 ∷ []) ∷ A.Install (1 ∷ []) ∷ memory_at 4 5))
    ∷ peim 0x0b None Absent (script (A.Set 0 0x40000050 ∷ A.Peek 0 8 ∷ A.Set 0 0x40000070 ∷ A.Peek 0 8 ∷ []))
    ∷ []

like_pointers_text : boot_text board like_pointers ≡ codes "report 0\npei start 0 00000000-0000-0000-0000-00000000000a absent\ncall desc Success 0x80000040\ncall pool Success 0x80000070\ncall store Success\ncall install Success\ncall memory Success\nend Success\nmigrate 0x80000000 0x40000000\ncore install Success\npei start 0 00000000-0000-0000-0000-00000000000b absent\ncall peek Success 2301004000000000\ncall peek Success 2301008000000000\nend Success\npei stop\nppis 2\nppi 0 00000000-0000-0000-0000-000000000001 0x40000123\nppi core f894643d-c449-42d1-8ea8-85bdd8c65bde 0x0\ncallbacks 0\ndispatches 0\npendings 0\nhobs 6\nhob 1 09000000000000000000104000000000000000400000000000001040000000000001004000000000f800004000000000\nhob 7 10000080000000005800004000000000230100400000000000000000000000000000000000000001\nhob 7 2301008000000000\nhob 7 d800004000000000400000400000000000000000000000000000000000000000\nhob 7 1000008000000000c00000400000000000000000000000003d6494f849c4d1428ea885bdd8c65bde\nhob 7 0000000000000000a8000040000000000000000000000000ffffffff00000000\nhandles 0\nresult NoIpl\n"
unfolding digits by_index encode_with keyword word_text licence_text call_text reason_text end_text
like_pointers_text = refl

abbrev small_board : Board
small_board = record board { temp = record { base = 0x80000000; len = 0x4000 } }

-- a pool that fills the heap, one that is too much, and one that no HOB could hold
abbrev filling : List Module
filling = peim 0x0a None Absent ((A.Pool 0 16312 ∷ A.Pool 1 8 ∷ A.Pool 2 65528 ∷ A.Ret OutOfResources ∷ []) ∷ []) ∷ []

abbrev modes : List Module
modes =
    peim 0x0a None Absent (script (A.Pages 0 4 1 ∷ memory_at 4 5))
    ∷ peim 0x0b None Absent (script (A.Pages 0 4 1 ∷ A.Set 1 0x11 ∷ A.BootMode 1 1 ∷ A.Hob 6 (0x30 ∷ 0x10 ∷ replicate 6 0) ∷ []))
    ∷ []

modes_text : boot_text board modes ≡ codes "report 0\npei start 0 00000000-0000-0000-0000-00000000000a absent\ncall pages NotAvailableYet\ncall memory Success\nend Success\nmigrate 0x80000000 0x40000000\ncore install Success\npei start 0 00000000-0000-0000-0000-00000000000b absent\ncall pages Success 0x400ff000\ncall boot_mode Success\ncall hob Success 0x400000c0\nend Success\npei stop\nppis 1\nppi core f894643d-c449-42d1-8ea8-85bdd8c65bde 0x0\ncallbacks 0\ndispatches 0\npendings 0\nhobs 5\nhob 1 09000000110000000000104000000000000000400000000000f00f4000000000d800004000000000d000004000000000\nhob 7 1000008000000000580000400000000000000000000000003d6494f849c4d1428ea885bdd8c65bde\nhob 7 000000000000000040000040000000000000000000000000ffffffff00000000\nhob 2 0000000000000000000000000000000000f00f400000000000100000000000000400000000000000\nhob 6 3010000000000000\nhandles 0\nresult NoIpl\n"
unfolding digits by_index encode_with keyword word_text licence_text call_text reason_text end_text
modes_text = refl

-- a page region of four pages
abbrev early : List Module
early =
    peim 0x0a None Absent (script (A.Pages 0 4 1 ∷ ppi_desc 1 (guid 1) 0 ∷ A.Install (1 ∷ []) ∷ memory_at 4 5))
    ∷ peim 0x0b None Absent (script (A.Set 0 0x40000050 ∷ A.Peek 0 16 ∷ A.Set 0 0x40000070 ∷ A.Peek 0 24 ∷ []))
    ∷ []

early_text : boot_text (record board { pages = 0x4000 }) early ≡ codes "report 0\npei start 0 00000000-0000-0000-0000-00000000000a absent\ncall pages Success 0x8000f000\ncall desc Success 0x80000070\ncall install Success\ncall memory Success\nend Success\nmigrate 0x80000000 0x40000000\ncore install Success\npei start 0 00000000-0000-0000-0000-00000000000b absent\ncall peek Success 00f00f40000000000010000000000000\ncall peek Success 1000008000000000880000400000000000f00f4000000000\nend Success\npei stop\nppis 2\nppi 0 00000000-0000-0000-0000-000000000001 0x400ff000\nppi core f894643d-c449-42d1-8ea8-85bdd8c65bde 0x0\ncallbacks 0\ndispatches 0\npendings 0\nhobs 6\nhob 1 09000000000000000000104000000000000000400000000000f00f400000000020010040000000001801004000000000\nhob 2 0000000000000000000000000000000000f00f400000000000100000000000000400000000000000\nhob 7 1000008000000000880000400000000000f00f400000000000000000000000000000000000000001\nhob 7 f800004000000000700000400000000000000000000000000000000000000000\nhob 7 1000008000000000e00000400000000000000000000000003d6494f849c4d1428ea885bdd8c65bde\nhob 7 0000000000000000c8000040000000000000000000000000ffffffff00000000\nhandles 0\nresult NoIpl\n"
unfolding digits by_index encode_with keyword word_text licence_text call_text reason_text end_text
early_text = refl

abbrev shadowing : List Module
shadowing = peim 0x0a None Absent (script (A.Shadow ∷ A.SkipIf 1 3 ∷ memory_at 0 1)) ∷ peim 0x0b None Absent [] ∷ []

shadowing_text : boot_text board shadowing ≡ codes "report 0\npei start 0 00000000-0000-0000-0000-00000000000a absent\ncall shadow Success\ncall memory Success\nend Success\nmigrate 0x80000000 0x40000000\ncore install Success\npei start 0 00000000-0000-0000-0000-00000000000b absent\nend Success\npei start 0 00000000-0000-0000-0000-00000000000a shadow\ncall shadow AlreadyStarted\nend Success\npei stop\nppis 1\nppi core f894643d-c449-42d1-8ea8-85bdd8c65bde 0x0\ncallbacks 0\ndispatches 0\npendings 0\nhobs 3\nhob 1 090000000000000000001040000000000000004000000000000010400000000098000040000000009000004000000000\nhob 7 1000008000000000580000400000000000000000000000003d6494f849c4d1428ea885bdd8c65bde\nhob 7 000000000000000040000040000000000000000000000000ffffffff00000000\nhandles 0\nresult NoIpl\n"
unfolding digits by_index encode_with keyword word_text licence_text call_text reason_text end_text
shadowing_text = refl

-- without memory nobody starts again
abbrev shadowless : List Module
shadowless = peim 0x0a None Absent (script (A.Shadow ∷ [])) ∷ []

shadowless_text : boot_text board shadowless ≡ codes "report 0\npei start 0 00000000-0000-0000-0000-00000000000a absent\ncall shadow Success\nend Success\npei stop\nwaiting 0 00000000-0000-0000-0000-00000000000a shadow\nppis 0\ncallbacks 0\ndispatches 0\npendings 0\nhobs 1\nhob 1 090000000000000000000180000000000000008000000000000001800000000040000080000000003800008000000000\nhandles 0\nresult NoMemory\n"
unfolding digits by_index encode_with keyword word_text licence_text call_text reason_text end_text
shadowless_text = refl
