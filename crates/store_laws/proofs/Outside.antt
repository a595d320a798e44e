-- No volume has an address of the heap.
use Rattle.std.proofs.Common.{◌⊎◌, ℕ, ◌+◌, ◌≤◌, Bool, true, false, length, arith, subst, Option, Some, IfSome}
use Rattle.phys_mem.specs.declared.rom.Rom.{Rom}
use Rattle.store_model.specs.StoreState.{Range, StoreState}
use Rattle.store_model.specs.StateFacts.{AreApart, IsBoard, IsHeap, IsMapped, IsPlanned, IsStoreState, rom_range}
use Rattle.store_laws.specs.Descriptors.{AreRomsApart}
use Rattle.pi_base.proofs.ListFacts.{each_more}

-- what is outside a range is outside a part of it
outside_part : (range : Range) (base len : ℕ) (rom : Rom) → range.base ≤ base → base + len ≤ range.base + range.len → AreApart range (rom_range rom) → (rom.base + length rom.bytes ≤ base) ⊎ (base + len ≤ rom.base)
outside_part range base len rom le fits (◌⊎◌.inl h) = ◌⊎◌.inr (omega (arith, h, fits))
outside_part range base len rom le fits (◌⊎◌.inr h) = ◌⊎◌.inl (omega (arith, h, le))

part_apart : (range : Range) (s : StoreState) → range.base ≤ s.base → s.base + s.len ≤ range.base + range.len → ((rom : Rom) → IsMapped s.board rom → AreApart range (rom_range rom)) → IsBoard s.board → AreRomsApart s
part_apart range s le fits f board =
    each_more (IsMapped s.board) (λ (rom : Rom). (rom.base + length rom.bytes ≤ s.base) ⊎ (s.base + s.len ≤ rom.base)) s.board.roms (λ rom k. outside_part range s.base s.len rom le fits (f rom k)) board.roms

by_place : (s : StoreState) (moved : Bool) → IsHeap s moved → IfSome s.planned (IsPlanned s.board) → IsBoard s.board → AreRomsApart s
by_place s false heap planned board =
    let start = heap.0 in
    let long = heap.1 in
    part_apart s.board.temp s (omega (arith, start)) (omega (arith, start, long)) (λ rom k. k.temp) board
by_place s true heap planned board =
    let plan : IfSome (Some (record { base = s.base; len = s.len })) (IsPlanned s.board) = subst (λ (x : Option Range). IfSome x (IsPlanned s.board)) heap.0 planned in
    part_apart s.board.ram s plan.0 plan.1 (λ rom k. k.ram) board

pub roms_are_apart : (s : StoreState) → IsStoreState s → AreRomsApart s
roms_are_apart s h = by_place s s.moved h.heap h.planned h.board
