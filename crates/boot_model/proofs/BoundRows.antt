-- Worked boots at their bounds: the fuel, the frames, the heap's room and the page region's.
use Rattle.std.proofs.Common.{◌≡◌, ℕ, Bool, true, false, List, [], ◌∷◌, Some, None, refl, take, codes, count_by, drop}
use Rattle.std.specs.Fmt.{digits}
use Rattle.hex.specs.Hex.{encode_with}
use Rattle.uuid.specs.Text.{by_index}
use Rattle.pi_base.specs.{declared.word.Word.TheVariants.Success, declared.word.Word.TheVariants.OutOfResources, WordText.word_text}
use Rattle.act_code.specs.declared.action.Action.TheVariants as A
use Rattle.act_code.specs.declared.action.GuidArg.TheVariants as G
use Rattle.mod_catalog.specs.{declared.catalogue.Module.Module, declared.catalogue.PartExpr.TheVariants.Absent}
use Rattle.boot_model.specs.{declared.line.Line.Line, BootRun.boot_lines, PeiMachine.PeiMachine}
use Rattle.boot_model.specs.declared.line.Line.TheVariants as L
use Rattle.boot_model.specs.declared.line.CallName.TheVariants as C
use Rattle.boot_model.specs.declared.line.Extra.TheVariants as X
use Rattle.boot_model.specs.Text.{text_of, keyword, licence_text, call_text, reason_text, end_text}
use Rattle.store_model.specs.StoreState.{Board}
use Rattle.boot_model.specs.{declared.phase_end.PeiEnd.TheVariants.Spent, declared.phase_end.PeiEnd.TheVariants.Deep, PeiRun.pei_end}
use Rattle.boot_model.proofs.WorkedBoots.{guid, board, one_volume, peim, ppi_desc, fuel}

-- a callback that reinstalls its PPI, and so calls itself
abbrev reinstalling : List Module
reinstalling =
    peim 0x0a None Absent (
    (A.Set 0 0 ∷ A.Desc 1 1 (G.Inline (guid 1)) 1 ∷ A.Notify (1 ∷ []) ∷ ppi_desc 2 (guid 1) 0 ∷ A.Install (2 ∷ []) ∷ A.Ret Success ∷ [])
    ∷ (A.Locate 2 3 (guid 1) 0 ∷ A.Reinstall 2 2 ∷ A.Ret Success ∷ []) ∷ [])
    ∷ []

abbrev with_fuel : ℕ → PeiMachine
with_fuel fuel = pei_end board (one_volume reinstalling) fuel

abbrev is_callback_line : Line → Bool
is_callback_line (L.NotifyCallback volume name fired) = true
is_callback_line _ = false

abbrev is_reinstall_line : Line → Bool
is_reinstall_line (L.Call C.Reinstall _ _) = true
is_reinstall_line _ = false

abbrev is_locate_line : Line → Bool
is_locate_line (L.Call C.Locate _ _) = true
is_locate_line _ = false

spent_callbacks : count_by is_callback_line (with_fuel 50).lines ≡ 23
spent_callbacks = refl

spent_locates : count_by is_locate_line (with_fuel 50).lines ≡ 23
spent_locates = refl

spent_reinstalls : count_by is_reinstall_line (with_fuel 50).lines ≡ 22
spent_reinstalls = refl

spent_ends : (with_fuel 50).ended ≡ Some Spent
spent_ends = refl

deep_callbacks : count_by is_callback_line (with_fuel 1000000).lines ≡ 63
deep_callbacks = refl

deep_locates : count_by is_locate_line (with_fuel 1000000).lines ≡ 63
deep_locates = refl

deep_reinstalls : count_by is_reinstall_line (with_fuel 1000000).lines ≡ 63
deep_reinstalls = refl

deep_ends : (with_fuel 1000000).ended ≡ Some Deep
deep_ends = refl

just_deep : (with_fuel 131).ended ≡ Some Deep
just_deep = refl

-- a pool that fills the heap, one that is too much, and one that no HOB could hold
abbrev filling : List Module
filling = peim 0x0a None Absent ((A.Pool 0 16312 ∷ A.Pool 1 8 ∷ A.Pool 2 65528 ∷ A.Ret OutOfResources ∷ []) ∷ []) ∷ []

abbrev small_board : Board
small_board = record board { temp = record { base = 0x80000000; len = 0x4000 } }

filling_text : text_of (take 13 (boot_lines small_board (one_volume filling) fuel)) ≡ codes "report 0\npei start 0 00000000-0000-0000-0000-00000000000a absent\ncall pool Success 0x80000040\ncall pool OutOfResources\ncall pool OutOfResources\nend OutOfResources\npei stop\nppis 0\ncallbacks 0\ndispatches 0\npendings 0\nhobs 2\nhob 1 09000000000000000040008000000000000000800000000000400080000000000040008000000000f83f008000000000\n"
unfolding digits by_index encode_with keyword word_text licence_text call_text reason_text end_text
filling_text = refl

-- one page in the page region, and two asked for
abbrev paging : List Module
paging = peim 0x0a None Absent ((A.Pages 0 4 2 ∷ A.Pages 0 4 1 ∷ A.Pages 0 4 1 ∷ A.Ret Success ∷ []) ∷ []) ∷ []

paging_lines : take 3 (drop 2 (boot_lines (record board { pages = 0x1000 }) (one_volume paging) fuel)) ≡
    L.Call C.Pages OutOfResources X.Nothing ∷ L.Call C.Pages Success (X.Number 0x8000f000) ∷ L.Call C.Pages OutOfResources X.Nothing ∷ []
paging_lines = refl
