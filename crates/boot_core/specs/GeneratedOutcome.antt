-- What `generate` leads to: the boot of the generated volume, of which a summary is printed in place of its lines.
-- Own.
use Rattle.std.specs.Prelude.{◌≡◌, ℕ, ◌+◌, ◌-◌, ◌^◌, min, List, [], ◌∷◌, codes, decimal, flat_map, length, Option, Some, None, option_map}
use Rattle.std.proofs.Math.Dec.{lit≤}
use Rattle.pi_base.specs.Field.{AreBytes}
use Rattle.boot_io.specs.Line.{line_of}
use Rattle.boot_plan.specs.declared.plan.Plan.{Plan}
use Rattle.fv_volume.specs.Generated.{generated}
use Rattle.mod_catalog.specs.declared.catalogue.Catalog.{Catalog}
use Rattle.store_model.specs.StoreState.{Board, next_body}
use Rattle.boot_model.specs.declared.line.Line.TheVariants as L
use Rattle.boot_model.specs.{declared.line.RunEnd.RunEnd, PeiMachine.PeiMachine, PeiRun.pei_end, PlanBoard.board_of, Text.line_text}
use Rattle.pei_dispatch.specs.LastStart.{last_started}
use Rattle.boot_core.specs.declared.generated.TheConstants.{TEMP_BASE, TEMP_LEN, RAM_BASE, RAM_LEN, VOLUME_BASE, FUEL}
use Rattle.boot_core.specs.{declared.status.Status.Status, declared.summary.SummaryLine.SummaryLine, BootEnd.status_of, WholeEnd.end_of}
use Rattle.boot_core.specs.declared.summary.SummaryLine.TheVariants as S
use Rattle.boot_core.specs.ImagesOutcome.{ImagesOutcome}

-- the plan of a generated volume: memory, the volume, and the fuel
abbrev pub generated_plan : Plan
generated_plan = record {
  temp = record { base = TEMP_BASE; len = TEMP_LEN; in_range = lit≤ tt };
  ram = record { base = RAM_BASE; len = RAM_LEN; in_range = lit≤ tt };
  volumes = record { base = VOLUME_BASE; name = codes "generated" } ∷ [];
  fuel = FUEL;
  pages = 0;
}

abbrev pub generated_images : ℕ → List (List ℕ)
generated_images n = generated n ∷ []

abbrev pub generated_board : ℕ → Catalog → Board
generated_board n catalog = board_of generated_plan catalog (generated_images n)

-- a module of the catalogue by its number i in its name: the volume has them from the last down to the first
abbrev pub module_index : ℕ → ℕ → ℕ
module_index n number = n - 1 - number

-- the lines of the summary of n modules, where PEI and the boot have ended so
abbrev pub summary_lines : ℕ → Catalog → PeiMachine → RunEnd → List SummaryLine
summary_lines n catalog pei end =
    S.Modules n ∷ S.Starts (min (length pei.started + length pei.again) (2 ^ 32 - 1)) ∷ S.Last (option_map (module_index n) (last_started catalog pei))
    ∷ S.Actions pei.actions ∷ S.Ppis (length pei.store.ppis) ∷ S.Hobs (length pei.store.hobs + 1) ∷ S.Heap (next_body pei.store) ∷ S.Result end ∷ []

-- the number of a module, or a dash
abbrev pub index_text : Option ℕ → List ℕ
index_text None = codes "-"
index_text (Some i) = decimal i

-- the text of a line of the summary
unfoldable pub summary_line_text : SummaryLine → List ℕ
summary_line_text (S.Modules count) = line_of (codes "modules") (decimal count ∷ [])
summary_line_text (S.Starts count) = line_of (codes "starts") (decimal count ∷ [])
summary_line_text (S.Last index) = line_of (codes "last") (index_text index ∷ [])
summary_line_text (S.Actions count) = line_of (codes "actions") (decimal count ∷ [])
summary_line_text (S.Ppis count) = line_of (codes "ppis") (decimal count ∷ [])
summary_line_text (S.Hobs count) = line_of (codes "hobs") (decimal count ∷ [])
summary_line_text (S.Heap len) = line_of (codes "heap") (decimal len ∷ [])
summary_line_text (S.Result end) = line_text (L.Result end)

abbrev pub summary_text : List SummaryLine → List ℕ
summary_text lines = flat_map summary_line_text lines

-- what the catalogue of a generated volume leads to: the status of its boot, and the summary
pub record SummaryOutcome (n : ℕ) (catalog : Catalog) (status : Status) (text : List ℕ) : Type 0 where
  pub end : RunEnd
  pub ended : end_of (generated_board n catalog) catalog FUEL ≡ Some end
  pub status_is : status ≡ status_of end
  pub text_is : text ≡ summary_text (summary_lines n catalog (pei_end (generated_board n catalog) catalog FUEL) end)

-- what the generated volume of n modules, a list of bytes, leads to
pub record GeneratedOutcome (n : ℕ) (status : Status) (text : List ℕ) : Type 0 where
  pub of_bytes : AreBytes (generated n)
  pub leads : ImagesOutcome (SummaryOutcome n) generated_plan (generated_images n) status text
