-- A read and a write at an address of the heap.
use Rattle.std.proofs.Common.{◌≡◌, ℕ, zero, suc, ◌+◌, ◌-◌, ◌≤◌, Bool, true, false, List, [], ◌∷◌, ◌++◌, length, take, drop, arith, ap, refl, sym, ◌∙◌, Some, None, replicate, map}
use Rattle.std.proofs.lemmas.List.{length-replicate}
use Rattle.phys_mem.specs.Regions.{rom_region, regions, bytes_at, written, Becomes}
use Rattle.phys_mem.specs.{Region.replaced, declared.memory.PhysMem.PhysMem}
use Rattle.store_laws.specs.Mapped.{Layout, HasHeap, regions_with, FirstMemories, HeapsAreRead}
use Rattle.store_laws.proofs.{Mapped.write_by, Mapped.read_by, Parts.replaced_len}

written_is : (l : Layout) (heap text : List ℕ) (memory : PhysMem) (at : ℕ) → HasHeap l heap memory → l.base ≤ at → at + length text ≤ l.base + l.len
    → written (regions memory) at text ≡ Some (regions_with l (replaced heap (at - l.base) text))
written_is l heap text memory at has le fits =
    let k = at - l.base in
    let sum : l.base + k ≡ at = omega (arith, le) in
    ap (λ r. written r at text) has.regions ∙ ap (λ a. written (regions_with l heap) a text) (sym sum) ∙ write_by l l.moved heap text k has.placed has.len (omega (arith, le, fits, has.len))

pub has_written : (l : Layout) (heap text : List ℕ) (old new : PhysMem) (at : ℕ) (ok : Bool) → Becomes (written (regions old) at text) (regions old) ok (regions new) → HasHeap l heap old → l.base ≤ at → at + length text ≤ l.base + l.len
    → (ok ≡ true) × HasHeap l (replaced heap (at - l.base) text) new
has_written l heap text old new at true h has le fits =
    let some : Some (regions_with l (replaced heap (at - l.base) text)) ≡ Some (regions new) = sym (written_is l heap text old at has le fits) ∙ h in
    let same : regions new ≡ regions_with l (replaced heap (at - l.base) text) = cc in
    (refl, record { placed = has.placed; len = replaced_len heap text (at - l.base) (omega (arith, le, fits, has.len)) ∙ has.len; regions = same })
has_written l heap text old new at false h has le fits =
    let none : Some (regions_with l (replaced heap (at - l.base) text)) ≡ None = sym (written_is l heap text old at has le fits) ∙ h.0 in cc

pub has_read : (l : Layout) (heap : List ℕ) (memory : PhysMem) (at n : ℕ) → HasHeap l heap memory → l.base ≤ at → at + n ≤ l.base + l.len
    → bytes_at (regions memory) at n ≡ Some (take n (drop (at - l.base) heap))
has_read l heap memory at n has le fits =
    let k = at - l.base in
    let sum : l.base + k ≡ at = omega (arith, le) in
    ap (λ r. bytes_at r at n) has.regions ∙ ap (λ a. bytes_at (regions_with l heap) a n) (sym sum) ∙ read_by l l.moved heap k n has.placed has.len (omega (arith, le, fits, has.len))

pub heaps_are_read : HeapsAreRead
heaps_are_read l heap memory at n has le fits = has_read l heap memory at n has le fits

-- all of the heap
abbrev nought : ℕ
nought = 0

take_all : (xs : List ℕ) (n : ℕ) → length xs ≡ n → take n xs ≡ xs
take_all [] zero e = refl
take_all [] (suc n) e = absurd (omega (arith, e))
take_all (x ∷ xs) zero e = absurd (omega (arith, e))
take_all (x ∷ xs) (suc n) e = ap (λ rest. x ∷ rest) (take_all xs n (omega (arith, e)))

pub has_all : (l : Layout) (heap : List ℕ) (memory : PhysMem) (base len : ℕ) → HasHeap l heap memory → l.base ≡ base → l.len ≡ len → bytes_at (regions memory) base len ≡ Some heap
has_all l heap memory base len has b n =
    let none : base - l.base ≡ 0 = omega (arith, b) in
    let size = has.len in
    has_read l heap memory base len has (omega (arith, b)) (omega (arith, b, n)) ∙ ap (λ k. Some (take len (drop k heap))) none ∙ ap Some (take_all heap len (size ∙ n))

-- memory as it is made
zeros_append : (a b : ℕ) → replicate (a + b) nought ≡ replicate a nought ++ replicate b nought
zeros_append zero b = let e : 0 + b ≡ b = omega arith in ap (λ n. replicate n nought) e
zeros_append (suc a) b = let e : suc a + b ≡ suc (a + b) = omega arith in ap (λ n. replicate n nought) e ∙ ap (λ xs. 0 ∷ xs) (zeros_append a b)

pub first_memories : FirstMemories
first_memories board memory le is =
    let len = board.temp.len - board.pages in
    let rest = board.temp.len - len in
    let sum : len + rest ≡ board.temp.len = omega (arith, le) in
    let bytes : replicate board.temp.len nought ≡ replicate len nought ++ replicate rest nought = ap (λ n. replicate n nought) (sym sum) ∙ zeros_append len rest in
    record {
      placed = (refl, omega arith);
      len = length-replicate len nought;
      regions = is ∙ ap (λ (x : List ℕ). record { base = board.temp.base; bytes = x; writable = true } ∷ record { base = board.ram.base; bytes = replicate board.ram.len 0; writable = true } ∷ map rom_region board.roms) bytes;
    }
