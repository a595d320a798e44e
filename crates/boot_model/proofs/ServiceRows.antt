-- Worked boots of the other services of PEI: statuses, boot modes, volumes that PPIs tell of, pools and pages.
use Rattle.std.proofs.Common.{◌≡◌, ℕ, List, [], ◌∷◌, ◌++◌, None, refl, codes, replicate}
use Rattle.std.specs.Fmt.{digits}
use Rattle.hex.specs.Hex.{encode_with}
use Rattle.uuid.specs.Text.{by_index}
use Rattle.pi_base.specs.{Field.little_bytes, declared.known_guid.TheConstants.VOLUME_INFO_PPI, WordText.word_text}
use Rattle.phys_mem.specs.declared.rom.Rom.{Rom}
use Rattle.act_code.specs.declared.action.Action.TheVariants as A
use Rattle.mod_catalog.specs.{declared.catalogue.Catalog.Catalog, declared.catalogue.Module.Module}
use Rattle.mod_catalog.specs.declared.catalogue.PartExpr.TheVariants.{Absent}
use Rattle.boot_model.specs.declared.known_guid.TheConstants.{FILE_SYSTEM2}
use Rattle.store_model.specs.StoreState.{Board}
use Rattle.boot_model.specs.Text.{keyword, licence_text, call_text, reason_text, end_text}
use Rattle.boot_model.proofs.WorkedBoots.{guid, board, volume, one_volume, peim, script, ppi_desc, pei_text, printed}

-- a second registration for shadow is refused in the first start too; set, add and addr leave a status as the calls do; a boot mode has 32 bits
abbrev statuses : List Module
statuses =
    peim 0x0a None Absent (script (
    A.Shadow ∷ A.Shadow ∷ A.Pool 1 8
    ∷ A.Locate 2 3 (guid 9) 0 ∷ A.Set 4 1 ∷ A.SkipIf 1 1 ∷ A.Log (codes "set")
    ∷ A.Locate 2 3 (guid 9) 0 ∷ A.Add 4 1 ∷ A.SkipIf 1 1 ∷ A.Log (codes "added")
    ∷ A.Locate 2 3 (guid 9) 0 ∷ A.Addr 5 1 0 ∷ A.SkipIf 1 1 ∷ A.Log (codes "addressed")
    ∷ A.Add 9 1 ∷ A.SkipIf 0 1 ∷ A.Log (codes "unadded")
    ∷ A.Set 4 1 ∷ A.Addr 5 9 0 ∷ A.SkipIf 0 1 ∷ A.Log (codes "unaddressed")
    ∷ A.Set 6 0x12345678 ∷ A.BootMode 1 6 ∷ A.BootMode 0 7 ∷ A.Set 6 0x100000000 ∷ A.BootMode 1 6 ∷ A.BootMode 0 7 ∷ []))
    ∷ []

statuses_text : pei_text board (one_volume statuses) ≡ printed (
    "report 0"
    ∷ "pei start 0 00000000-0000-0000-0000-00000000000a absent"
    ∷ "call shadow Success"
    ∷ "call shadow AlreadyStarted"
    ∷ "call pool Success 0x80000040"
    ∷ "call locate NotFound"
    ∷ "log set"
    ∷ "call locate NotFound"
    ∷ "log added"
    ∷ "call locate NotFound"
    ∷ "log addressed"
    ∷ "log unadded"
    ∷ "log unaddressed"
    ∷ "call boot_mode Success"
    ∷ "call boot_mode Success 0x12345678"
    ∷ "call boot_mode InvalidParameter"
    ∷ "call boot_mode Success 0x12345678"
    ∷ "end Success"
    ∷ "pei stop"
    ∷ "waiting 0 00000000-0000-0000-0000-00000000000a shadow" ∷ [])
unfolding digits by_index encode_with keyword word_text licence_text call_text reason_text end_text
statuses_text = refl

-- volumes, and bytes that tell of one: FvFormat, FvInfo and so many bytes behind them
abbrev three_volumes : List Module → Catalog
three_volumes modules = record { volumes = volume 0xfff00000 None ∷ volume 0xff000000 None ∷ volume 0xfe000000 None ∷ []; modules = modules }

abbrev telling : ℕ → ℕ → ℕ → Rom
telling base of behind = record { base = base; bytes = FILE_SYSTEM2.0 ++ little_bytes 8 of ++ replicate behind 0 }

-- a PPI tells of a volume by 48 bytes, and not where only 40 can be read; one that is reinstalled tells of a volume too
abbrev telling_board : Board
telling_board = record board { roms = telling 0xfd000000 0xff000000 16 ∷ telling 0xfc000000 0xff000000 24 ∷ telling 0xfb000000 0xfe000000 24 ∷ [] }

abbrev reports : List Module
reports =
    peim 0x0a None Absent (script (
    A.Set 0 0xfd000000 ∷ ppi_desc 1 VOLUME_INFO_PPI 0 ∷ A.Install (1 ∷ []) ∷ A.Set 0 0xfc000000 ∷ ppi_desc 2 VOLUME_INFO_PPI 0 ∷ A.Install (2 ∷ [])
    ∷ ppi_desc 3 (guid 1) 0 ∷ A.Install (3 ∷ []) ∷ A.Set 0 0xfb000000 ∷ ppi_desc 4 VOLUME_INFO_PPI 0 ∷ A.Reinstall 3 4 ∷ []))
    ∷ []

reports_text : pei_text telling_board (three_volumes reports) ≡ printed (
    "report 0"
    ∷ "pei start 0 00000000-0000-0000-0000-00000000000a absent"
    ∷ "call desc Success 0x80000040"
    ∷ "call install Success"
    ∷ "call desc Success 0x80000098"
    ∷ "call install Success"
    ∷ "report 1"
    ∷ "call desc Success 0x800000f0"
    ∷ "call install Success"
    ∷ "call desc Success 0x80000148"
    ∷ "call reinstall Success"
    ∷ "report 2"
    ∷ "end Success"
    ∷ "pei stop" ∷ [])
unfolding digits by_index encode_with keyword word_text licence_text call_text reason_text end_text
reports_text = refl

-- temporary RAM of three pages, of which two are the page region
abbrev paged_board : Board
paged_board = record board { temp = record { base = 0x80000000; len = 0x3000 }; pages = 0x2000 }

-- a page is of the type that was asked for, and takes nothing of the heap before the move; memory that would hold the heap alone is too short for temporary RAM
abbrev pages : List Module
pages =
    peim 0x0a None Absent (script (
    A.Pages 0 6 1 ∷ A.Set 1 0x80000060 ∷ A.Peek 1 8 ∷ A.Pool 4 3976 ∷ A.Pool 5 0
    ∷ A.Set 2 0x40000000 ∷ A.Set 3 0x1000 ∷ A.Memory 2 3 ∷ A.Set 3 0x3000 ∷ A.Memory 2 3 ∷ []))
    ∷ []

pages_text : pei_text paged_board (one_volume pages) ≡ printed (
    "report 0"
    ∷ "pei start 0 00000000-0000-0000-0000-00000000000a absent"
    ∷ "call pages Success 0x80002000"
    ∷ "call peek Success 0600000000000000"
    ∷ "call pool Success 0x80000070"
    ∷ "call pool OutOfResources"
    ∷ "call memory InvalidParameter"
    ∷ "call memory Success"
    ∷ "end Success"
    ∷ "migrate 0x80000000 0x40000000"
    ∷ "core install Success"
    ∷ "pei stop" ∷ [])
unfolding digits by_index encode_with keyword word_text licence_text call_text reason_text end_text
pages_text = refl

-- the longest pool, and one that no HOB could hold, where there is room for both
abbrev roomy_board : Board
roomy_board = record board { temp = record { base = 0x80000000; len = 0x40000 } }

abbrev longest : List Module
longest = peim 0x0a None Absent (script (A.Pool 0 65520 ∷ A.Pool 1 65521 ∷ [])) ∷ []

longest_text : pei_text roomy_board (one_volume longest) ≡ printed (
    "report 0"
    ∷ "pei start 0 00000000-0000-0000-0000-00000000000a absent"
    ∷ "call pool Success 0x80000040"
    ∷ "call pool OutOfResources"
    ∷ "end Success"
    ∷ "pei stop" ∷ [])
unfolding digits by_index encode_with keyword word_text licence_text call_text reason_text end_text
longest_text = refl

-- a heap that is full moves, and the core finds no room for its PPI
abbrev page_board : Board
page_board = record board { temp = record { base = 0x80000000; len = 0x1000 } }

abbrev full : List Module
full = peim 0x0a None Absent (script (A.Pool 0 4024 ∷ A.Set 1 0x40000000 ∷ A.Set 2 0x1000 ∷ A.Memory 1 2 ∷ [])) ∷ []

full_text : pei_text page_board (one_volume full) ≡ printed (
    "report 0"
    ∷ "pei start 0 00000000-0000-0000-0000-00000000000a absent"
    ∷ "call pool Success 0x80000040"
    ∷ "call memory Success"
    ∷ "end Success"
    ∷ "migrate 0x80000000 0x40000000"
    ∷ "core install OutOfResources"
    ∷ "pei stop" ∷ [])
unfolding digits by_index encode_with keyword word_text licence_text call_text reason_text end_text
full_text = refl
