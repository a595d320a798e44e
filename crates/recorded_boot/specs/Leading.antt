-- The free boots that start what was started up to a machine are those that continue from it.
-- Own; PI 1.8, volumes 1 and 2, leave to the dispatchers which of the eligible modules starts, and nothing else.
use Rattle.std.specs.Prelude.{◌≡◌, ℕ, List, [], ◌∷◌, ◌++◌, None}
use Rattle.mod_catalog.specs.{declared.catalogue.Catalog.Catalog, WellFormed.AreNumbered}
use Rattle.store_model.specs.StoreState.{Board, StoreState}
use Rattle.boot_model.specs.{declared.line.Line.Line, PeiMachine.PeiMachine, PeiRun.pei_opening, DxeMachine.DxeMachine, DxeRun.dxe_opening}
use Rattle.boot_model.specs.FreeRun.{AreFreeLines, AreFreePeiLines, AreFreeDxeLines, IsFreePeiStep}
use Rattle.recorded_boot.specs.{Named.HasNoTwins, Starts.ComeFirst, Starts.starts, OneStep.IsFreeDxeStep}

-- free steps lead from the first machine to this one, over these, the last of them first
abbrev pub PeiComesTo : Catalog → ℕ → PeiMachine → List PeiMachine → PeiMachine → Type 0
PeiComesTo catalog fuel first [] m = m ≡ first
PeiComesTo catalog fuel first (before ∷ earlier) m =
    (before.ended ≡ None) × IsFreePeiStep catalog fuel before m × PeiComesTo catalog fuel first earlier before

-- the same in DXE
abbrev pub DxeComesTo : Catalog → ℕ → DxeMachine → List DxeMachine → DxeMachine → Type 0
DxeComesTo catalog fuel first [] m = m ≡ first
DxeComesTo catalog fuel first (before ∷ earlier) m =
    (before.ended ≡ None) × IsFreeDxeStep catalog fuel before m × DxeComesTo catalog fuel first earlier before

-- a boot from the opening that starts what was started continues from here, and each boot from here is one from the opening
abbrev pub PeiStartsLead : Type 0
PeiStartsLead = (board : Board) (catalog : Catalog) (fuel : ℕ) (earlier : List PeiMachine) (m : PeiMachine) → HasNoTwins catalog
    → PeiComesTo catalog fuel (pei_opening board catalog) earlier m → (lines : List Line)
    → (AreFreeLines board catalog fuel lines → ComeFirst (starts m.lines) (starts lines) → AreFreePeiLines catalog fuel m lines)
    × (AreFreePeiLines catalog fuel m lines → AreFreeLines board catalog fuel lines)

-- the same after the hand-off, if each volume's parent comes before it
abbrev pub DxeStartsLead : Type 0
DxeStartsLead = (catalog : Catalog) (fuel : ℕ) (pei : PeiMachine) (s : StoreState) (actions : ℕ) (earlier : List DxeMachine) (m : DxeMachine)
    → HasNoTwins catalog → AreNumbered 0 catalog.volumes → DxeComesTo catalog fuel (dxe_opening catalog s actions) earlier m → (lines : List Line)
    → (AreFreeDxeLines catalog fuel pei (dxe_opening catalog s actions) lines → ComeFirst (starts (pei.lines ++ m.lines)) (starts lines)
    → AreFreeDxeLines catalog fuel pei m lines)
    × (AreFreeDxeLines catalog fuel pei m lines → AreFreeDxeLines catalog fuel pei (dxe_opening catalog s actions) lines)
