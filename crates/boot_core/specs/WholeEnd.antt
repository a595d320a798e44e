-- The end of a boot: the result that its last line tells, and its text.
-- Own; PI 1.8 leaves the end of a boot to what stands above DXE.
use Rattle.std.specs.Prelude.{◌≡◌, ℕ, List, Option, Some, None, option_map}
use Rattle.mod_catalog.specs.declared.catalogue.Catalog.{Catalog}
use Rattle.boot_model.specs.{declared.line.RunEnd.RunEnd, BootRun.boot_lines, BootRun.dxe_result, DxeRun.dxe_end, PeiMachine.PeiMachine}
use Rattle.boot_model.specs.declared.line.RunEnd.TheVariants as E
use Rattle.boot_model.specs.{declared.phase_end.PeiEnd.PeiEnd, PeiRun.pei_end, Text.text_of}
use Rattle.boot_model.specs.declared.phase_end.PeiEnd.TheVariants.{Handoff, NoMemory, NoIpl, Spent, Deep}
use Rattle.store_model.specs.{HandleState.HandleState, HandleState.no_handles, StoreState.Board}
use Rattle.pei_dispatch.specs.Ends.{pei_starts}
use Rattle.boot_core.specs.Choices.{starts_of}

-- the result behind a PEI that has ended so: that of DXE where PEI handed off
abbrev pub end_after : Catalog → ℕ → PeiMachine → Option PeiEnd → Option RunEnd
end_after catalog fuel pei None = None
end_after catalog fuel pei (Some Handoff) = option_map dxe_result (dxe_end catalog fuel pei.store pei.actions).ended
end_after catalog fuel pei (Some NoMemory) = Some E.NoMemory
end_after catalog fuel pei (Some NoIpl) = Some E.NoIpl
end_after catalog fuel pei (Some Spent) = Some E.Spent
end_after catalog fuel pei (Some Deep) = Some E.Deep

-- the result of a boot
unfoldable pub end_of : Board → Catalog → ℕ → Option RunEnd
end_of board catalog fuel = end_after catalog fuel (pei_end board catalog fuel) (pei_end board catalog fuel).ended

-- the handles and the starts behind a PEI that has ended so: those of DXE too where PEI handed off, and else no handle
abbrev pub IsLeftBehind : Catalog → ℕ → PeiMachine → Option PeiEnd → HandleState → ℕ → Type 0
IsLeftBehind catalog fuel pei None handles starts = ⊥
IsLeftBehind catalog fuel pei (Some Handoff) handles starts =
    (handles ≡ (dxe_end catalog fuel pei.store pei.actions).handles) × (starts ≡ starts_of pei (dxe_end catalog fuel pei.store pei.actions))
IsLeftBehind catalog fuel pei (Some NoMemory) handles starts = (handles ≡ no_handles) × (starts ≡ pei_starts pei)
IsLeftBehind catalog fuel pei (Some NoIpl) handles starts = (handles ≡ no_handles) × (starts ≡ pei_starts pei)
IsLeftBehind catalog fuel pei (Some Spent) handles starts = (handles ≡ no_handles) × (starts ≡ pei_starts pei)
IsLeftBehind catalog fuel pei (Some Deep) handles starts = (handles ≡ no_handles) × (starts ≡ pei_starts pei)

-- its text
unfoldable pub boot_text : Board → Catalog → ℕ → List ℕ
boot_text board catalog fuel = text_of (boot_lines board catalog fuel)
