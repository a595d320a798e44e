-- Memory whose heap is known has the volumes of the board.
use Rattle.std.proofs.Common.{◌≡◌, ◌≤◌, ◌+◌, ◌-◌, ℕ, Bool, true, false, cond, List, [], ◌∷◌, ◌++◌, length, take, drop, Option, Some, None, ap, sym, refl, ◌∙◌, arith, length-take, length-drop, map, option_map, option_to_list}
use Rattle.std.specs.Option.{option_or}
use Rattle.std.proofs.lemmas.Bool.Decides.{nat_tests}
use Rattle.phys_mem.specs.Region.{Region, is_inside, part_of}
use Rattle.phys_mem.specs.Regions.{bytes_at, ram_region, regions, rom_region, rom_regions}
use Rattle.phys_mem.specs.{declared.bank.Bank.Bank, declared.memory.PhysMem.PhysMem, declared.rom.Rom.Rom}
use Rattle.store_model.specs.MemoryReading.{rom_bytes}
use Rattle.store_laws.specs.Mapped.{HasHeap, Layout, regions_by}
use Rattle.store_laws.proofs.Peeking.{roms_same}

rest_of : (a b : Region) (xs ys : List Region) → a ∷ xs ≡ b ∷ ys → xs ≡ ys
rest_of a b xs ys e = cc

-- a region that is written is no volume
pub no_rom : (roms : List Rom) (region : Region) (others : List Region) → region.writable ≡ true → map rom_region roms ≡ region ∷ others → ⊥
no_rom [] region others w e = cc
no_rom (rom ∷ roms) region others w e =
    let same : rom_region rom ≡ region = cc in
    let f : false ≡ region.writable = ap (λ (r : Region). r.writable) same in
    let bad : false ≡ true = f ∙ w in cc

two_first : (temp : Option Bank) (ram : Region) (roms : List Rom) (first second : Region) (others : List Region) → second.writable ≡ true
    → option_to_list (option_map ram_region temp) ++ (ram ∷ map rom_region roms) ≡ first ∷ second ∷ others → map rom_region roms ≡ others
two_first (Some bank) ram roms first second others w e = rest_of ram second (map rom_region roms) others (rest_of (ram_region bank) first (ram ∷ map rom_region roms) (second ∷ others) e)
two_first None ram roms first second others w e = absurd (no_rom roms second others w (rest_of ram first (map rom_region roms) (second ∷ others) e))

one_first : (temp : Option Bank) (ram first : Region) (roms volumes : List Rom) → ram.writable ≡ true
    → option_to_list (option_map ram_region temp) ++ (ram ∷ map rom_region roms) ≡ first ∷ map rom_region volumes → map rom_region roms ≡ map rom_region volumes
one_first (Some bank) ram first roms volumes w e = absurd (no_rom volumes ram (map rom_region roms) w (sym (rest_of (ram_region bank) first (ram ∷ map rom_region roms) (map rom_region volumes) e)))
one_first None ram first roms volumes w e = rest_of ram first (map rom_region roms) (map rom_region volumes) e

pub roms_by : (l : Layout) (moved : Bool) (heap : List ℕ) (memory : PhysMem) → regions memory ≡ regions_by l moved heap → rom_regions memory ≡ map rom_region l.board.roms
roms_by l false heap memory e = two_first memory.temp (ram_region memory.ram) memory.roms _ _ (map rom_region l.board.roms) refl e
roms_by l true heap memory e = one_first memory.temp (ram_region memory.ram) _ memory.roms l.board.roms refl e

pub volumes_are : (l : Layout) (heap : List ℕ) (memory : PhysMem) (at n : ℕ) → HasHeap l heap memory → bytes_at (rom_regions memory) at n ≡ rom_bytes l.board.roms at n
volumes_are l heap memory at n has = ap (λ r. bytes_at r at n) (roms_by l l.moved heap memory has.regions) ∙ roms_same l.board.roms at n

-- what is read is as long as was asked for
part_long : (base : ℕ) (bytes : List ℕ) (at n : ℕ) (b : Bool) (text : List ℕ) → is_inside base (length bytes) at n ≡ b → cond b (Some (take n (drop (at - base) bytes))) None ≡ Some text → length text ≡ n
part_long base bytes at n false text e f = cc
part_long base bytes at n true text e f =
    let le : base ≤ at = grind (arith, nat_tests, e) in
    let fits : at + n ≤ base + length bytes = grind (arith, nat_tests, e) in
    let same : take n (drop (at - base) bytes) ≡ text = cc in
    let size : length (take n (drop (at - base) bytes)) ≡ n = grind (arith, length-take, length-drop, le, fits) in
    sym (ap length same) ∙ size

first_long : (found rest : Option (List ℕ)) (n : ℕ) (text : List ℕ) → ((t : List ℕ) → found ≡ Some t → length t ≡ n) → ((t : List ℕ) → rest ≡ Some t → length t ≡ n) → option_or found rest ≡ Some text → length text ≡ n
first_long (Some t) rest n text f g e = let same : t ≡ text = cc in sym (ap length same) ∙ f t refl
first_long None rest n text f g e = g text e

pub read_long : (regions : List Region) (at n : ℕ) (text : List ℕ) → bytes_at regions at n ≡ Some text → length text ≡ n
read_long [] at n text e = cc
read_long (region ∷ others) at n text e =
    first_long (part_of region.base region.bytes at n) (bytes_at others at n) n text (λ t f. part_long region.base region.bytes at n (is_inside region.base (length region.bytes) at n) t refl f) (read_long others at n) e
