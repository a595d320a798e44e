-- The board of the tests, and the store over it.
use Rattle.std.proofs.Common.{◌≡◌, ℕ, ◌+◌, ◌≤◌, List, [], ◌∷◌, length, Result, Ok, Err, arith, inl, inr, sym, subst, IfOk}
use Rattle.boot_plan.specs.declared.limits.TheConstants.{MOST_TEMP}
use Rattle.pi_base.specs.declared.memory.OutOfMemory.{OutOfMemory}
use Rattle.phys_mem.specs.declared.rom.Rom.{Rom}
use Rattle.store_model.specs.{StoreState.Board, StoreState.StoreState, StateFacts.IsBoard, StoreCall.Anything, Service.Present}
use Rattle.heap_trials.specs.Volumes.{AreVolumes}

abbrev pub board : (len pages : ℕ) → List Rom → Board
board len pages roms = record { temp = record { base = 0x80000000; len = len }; pages = pages; ram = record { base = 0x40000000; len = 0x20000 }; roms = roms }

with_volume : (len pages : ℕ) (bytes : List ℕ) → len ≤ MOST_TEMP → pages + 64 ≤ len → length bytes ≡ 16 → IsBoard (board len pages (record { base = 0xff800000; bytes = bytes } ∷ []))
with_volume len pages bytes most fits long = record {
  temp_len = most;
  ram_len = omega arith;
  temp_begin = omega arith;
  temp_end = omega (arith, most);
  ram_end = omega arith;
  pages = omega (arith, fits);
  memory = inr (omega arith);
  roms = (record { end = omega (arith, long); temp = inl (omega (arith, most)); ram = inl (omega arith) }, tt);
  roms_apart = (tt, tt);
}

pub test_board : (len pages : ℕ) (roms : List Rom) → len ≤ MOST_TEMP → pages + 64 ≤ len → AreVolumes roms → IsBoard (board len pages roms)
test_board len pages roms most fits are =
    subst (λ x. IsBoard (board len pages x)) (sym are.2) (with_volume len pages are.0 most fits are.1)

pub stands : {M : Type 0} (Stands : M → StoreState → Type 0) (s : StoreState) (result : Result M OutOfMemory) → IfOk result (λ m. Stands m s)
    → IfOk result (λ m. Present (Stands m) Anything)
stands Stands s (Ok m) h = (s, h, tt)
stands Stands s (Err want) h = tt
