-- The copy of the HOB list: only temporary RAM has the one range, and only RAM the other.
use Rattle.std.proofs.Common.{◌≡◌, ℕ, ◌+◌, ◌-◌, ◌<◌, ◌≤◌, true, false, List, ◌∷◌, ◌++◌, length, take, drop, arith, ap, refl, sym, subst, ◌∙◌, Option, Some, None, length-append, map, option_map, option_to_list, take_at}
use Rattle.std.proofs.lemmas.List.{length-replicate}
use Rattle.phys_mem.specs.Region.{Region, is_inside, replaced}
use Rattle.phys_mem.specs.Regions.{rom_region, ram_region, fixed_regions, regions, bytes_at, share, copied}
use Rattle.phys_mem.specs.{declared.bank.Bank.Bank, declared.memory.PhysMem.PhysMem}
use Rattle.store_model.specs.StoreState.{Range, Rom, StoreState, end_place}
use Rattle.store_model.specs.HeapImage.{body_bytes, hob_list, heap_image}
use Rattle.store_model.specs.Migration.{migrated_to}
use Rattle.store_laws.specs.Spelling.{AreSpelled}
use Rattle.store_laws.specs.Mapped.{layout_of, regions_by, IsPlacedBy}
use Rattle.store_laws.proofs.Words.{has_read}
use Rattle.heap_store.specs.{Copied.copied_image, Copied.IsCopied, Ready.IsMoving}
use Rattle.heap_store.proofs.Readiness.{heap_of, placed_in, is_ready}
use Rattle.heap_store.proofs.ListBytes.{zeros, list_len, copied_is}
use Rattle.heap_store.proofs.CopiedRegions.{is_in, away, turned, roms_apart, zeros_written, copied_regions}
use Rattle.pei_heap.proofs.Volumes.{no_rom}

-- temporary RAM as it is left, and RAM with the copy
abbrev pub old_temp : StoreState → Region
old_temp s = record { base = s.board.temp.base; bytes = heap_image s ++ zeros (s.board.temp.len - s.len); writable = true }

abbrev pub new_regions : StoreState → Range → List Region
new_regions s to = regions_by (layout_of (migrated_to s to)) true (copied_image s to)

still_regions : (s : StoreState) (to : Range) (memory : PhysMem) → IsMoving s to memory → regions memory ≡ regions_by (layout_of s) false (heap_image s)
still_regions s to memory m = m.memory_is.image.regions ∙ ap (λ b. regions_by (layout_of s) b (heap_image s)) m.still

still_placed : (s : StoreState) (to : Range) (memory : PhysMem) → IsMoving s to memory → IsPlacedBy (layout_of s) false
still_placed s to memory m = subst (λ b. IsPlacedBy (layout_of s) b) m.still m.memory_is.image.placed

list_read : (s : StoreState) (to : Range) (memory : PhysMem) (n : ℕ) → IsMoving s to memory → AreSpelled (body_bytes s) s.hobs → n ≡ end_place s + 8 → n ≤ s.len → bytes_at (regions_by (layout_of s) false (heap_image s)) s.base n ≡ Some (hob_list s)
list_read s to memory n m spelt e le =
    let none : s.base - s.base ≡ 0 = omega arith in
    let len : length (hob_list s) ≡ n = list_len s spelt ∙ sym e in
    ap (λ r. bytes_at r s.base n) (sym (still_regions s to memory m))
    ∙ has_read (layout_of s) (heap_image s) memory s.base n m.memory_is.image (omega arith) (omega (arith, le))
    ∙ ap (λ k. Some (take n (drop k (heap_image s)))) none
    ∙ ap Some (take_at (hob_list s) (zeros (s.len - length (hob_list s))) n len)

temp_len : (s : StoreState) (to : Range) (memory : PhysMem) → IsMoving s to memory → length (heap_image s ++ zeros (s.board.temp.len - s.len)) ≡ s.board.temp.len
temp_len s to memory m =
    let a : length (heap_image s) ≡ s.len = m.memory_is.image.len in
    let b : length (zeros (s.board.temp.len - s.len)) ≡ s.board.temp.len - s.len = length-replicate (s.board.temp.len - s.len) 0 in
    let le = (still_placed s to memory m).1 in
    length-append (heap_image s) (zeros (s.board.temp.len - s.len)) ∙ omega (arith, a, b, le)

pub copying : (s : StoreState) (to : Range) (memory : PhysMem) (n : ℕ) → IsMoving s to memory → n ≡ end_place s + 8 → copied (regions memory) s.base to.base n ≡ Some (old_temp s ∷ new_regions s to)
copying s to memory n m e =
    let ready = is_ready s to memory m in
    let heap = heap_of s m.state m.still in
    let plan = placed_in s to m.state m.planned in
    let temp = s.board.temp in
    let ram = s.board.ram in
    let room = ready.room in
    let fits = ready.way.fits in
    let base = heap.0 in
    let short = (still_placed s to memory m).1 in
    let low = plan.0 in
    let high = plan.1 in
    let le : n ≤ s.len = omega (arith, e, room) in
    let pos : 0 < n = omega (arith, e) in
    let text : List ℕ = hob_list s in
    let len : length text ≡ n = list_len s ready.bodies ∙ sym e in
    let tl = temp_len s to memory m in
    let rl : length (zeros ram.len) ≡ ram.len = length-replicate ram.len 0 in
    let tf : is_inside temp.base (length (heap_image s ++ zeros (temp.len - s.len))) to.base n ≡ false =
    ap (λ k. is_inside temp.base k to.base n) tl
    ∙ away ram.base ram.len temp.base temp.len to.base n (turned (temp.base + temp.len) ram.base (ram.base + ram.len) temp.base m.state.board.memory) pos low (omega (arith, high, le, fits)) in
    let rf : is_inside ram.base (length (zeros ram.len)) s.base n ≡ false =
    ap (λ k. is_inside ram.base k s.base n) rl ∙ away temp.base temp.len ram.base ram.len s.base n m.state.board.memory pos (omega (arith, base)) (omega (arith, base, le, short)) in
    let of : share (map rom_region s.board.roms) s.base to.base n ≡ false = roms_apart s.board s.board.roms s.base to.base n m.state.board.roms pos (omega (arith, base)) (omega (arith, base, le, short)) in
    let rt : is_inside ram.base (length (zeros ram.len)) to.base n ≡ true =
    ap (λ k. is_inside ram.base k to.base n) rl ∙ is_in ram.base ram.len to.base n low (omega (arith, high, le, fits)) in
    let pre : ℕ = to.base - ram.base in
    let post : ℕ = ram.base + ram.len - (to.base + to.len) in
    let whole : ram.len ≡ pre + to.len + post = omega (arith, low, high) in
    let image : text ++ zeros (to.len - n) ≡ copied_image s to = ap (λ k. text ++ zeros (to.len - k)) e ∙ sym (copied_is s to) in
    let new : replaced (zeros ram.len) pre text ≡ zeros pre ++ copied_image s to ++ zeros post =
    ap (λ k. replaced (zeros k) pre text) whole ∙ zeros_written text pre to.len post n len (omega (arith, le, fits)) ∙ ap (λ x. zeros pre ++ x ++ zeros post) image in
    ap (λ r. copied r s.base to.base n) (still_regions s to memory m)
    ∙ copied_regions temp.base (heap_image s ++ zeros (temp.len - s.len)) ram.base (zeros ram.len) (zeros pre ++ copied_image s to ++ zeros post) (map rom_region s.board.roms) s.base to.base n text
    tf rf of (list_read s to memory n m ready.bodies e le) len rt new

-- without temporary RAM
rest_of : (bank : Region) (others some : List Region) (first : Region) → bank ∷ others ≡ first ∷ some → others ≡ some
rest_of bank others some first e = cc

fixed_on : (temp : Option Bank) (ram : Region) (roms : List Rom) (first region : Region) (others : List Region) → region.writable ≡ true
    → option_to_list (option_map ram_region temp) ++ (ram ∷ map rom_region roms) ≡ first ∷ region ∷ others → ram ∷ map rom_region roms ≡ region ∷ others
fixed_on (Some bank) ram roms first region others w e = rest_of (ram_region bank) (ram ∷ map rom_region roms) (region ∷ others) first e
fixed_on None ram roms first region others w e = absurd (no_rom roms region others w (rest_of ram (map rom_region roms) (region ∷ others) first e))

pub fixed_of : (memory : PhysMem) (first region : Region) (others : List Region) → region.writable ≡ true → regions memory ≡ first ∷ region ∷ others → fixed_regions memory ≡ region ∷ others
fixed_of memory first region others w e = fixed_on memory.temp (ram_region memory.ram) memory.roms first region others w e

pub is_copied : (s : StoreState) (to : Range) (memory mid new : PhysMem) → IsMoving s to memory → regions mid ≡ old_temp s ∷ new_regions s to → regions new ≡ fixed_regions mid → IsCopied s to new
is_copied s to memory mid new m e f =
    let ready = is_ready s to memory m in
    let plan = placed_in s to m.state m.planned in
    let room = ready.room in
    let fits = ready.way.fits in
    let a = list_len s ready.bodies in
    let b : length (zeros (to.len - (end_place s + 8))) ≡ to.len - (end_place s + 8) = length-replicate (to.len - (end_place s + 8)) 0 in
    record {
      placed = (plan.0, plan.1);
      len = ap length (copied_is s to) ∙ length-append (hob_list s) (zeros (to.len - (end_place s + 8))) ∙ omega (arith, a, b, room, fits);
      regions = f ∙ fixed_of mid (old_temp s) _ (map rom_region s.board.roms) refl e;
    }
