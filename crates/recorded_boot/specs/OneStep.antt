-- From a machine, the starts of a boot determine which of the free steps it takes: two steps that print the same starts are the same, if no volume has two
-- modules of one file name. PI 1.8, volume 3, "Firmware File System", has the file name in the file header, and requires the names of a volume to differ.
use Rattle.std.specs.Prelude.{◌≡◌, ℕ, List, None}
use Rattle.mod_catalog.specs.declared.catalogue.Catalog.{Catalog}
use Rattle.boot_model.specs.{FreeRun.IsFreePeiStep, FreeRun.IsFreeInDxe, PeiMachine.PeiMachine, DxeMachine.DxeMachine, DxeStep.dxe_case_of}
use Rattle.boot_laws.specs.DxeUnderWay.{IsUnderWay}
use Rattle.recorded_boot.specs.{Named.HasNoTwins, declared.order.line.Start.Start, Starts.ComeFirst, Starts.starts}

abbrev pub OnePeiStep : Type 0
OnePeiStep = (catalog : Catalog) (fuel : ℕ) (m one other : PeiMachine) (all : List Start) → HasNoTwins catalog
    → IsFreePeiStep catalog fuel m one → IsFreePeiStep catalog fuel m other
    → ComeFirst (starts one.lines) all → ComeFirst (starts other.lines) all → one ≡ other

abbrev pub IsFreeDxeStep : Catalog → ℕ → DxeMachine → DxeMachine → Type 0
IsFreeDxeStep catalog fuel m later = IsFreeInDxe catalog fuel m (dxe_case_of catalog m) later

abbrev pub OneDxeStep : Type 0
OneDxeStep = (catalog : Catalog) (fuel : ℕ) (m one other : DxeMachine) (all : List Start) → HasNoTwins catalog → m.ended ≡ None → IsUnderWay catalog m
    → IsFreeDxeStep catalog fuel m one → IsFreeDxeStep catalog fuel m other
    → ComeFirst (starts one.lines) all → ComeFirst (starts other.lines) all → one ≡ other
