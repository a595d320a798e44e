-- A read and a write inside the heap.
use Rattle.std.proofs.Common.{◌≡◌, ℕ, ◌+◌, ◌-◌, ◌≤◌, Bool, true, false, List, ◌∷◌, ◌++◌, length, take, drop, arith, ap, refl, sym, subst, ◌∙◌, Some, append_assoc, length-append, replicate, map, drop_at, drop-drop, length-drop}
use Rattle.std.proofs.lemmas.Bool.Decides.{nat_tests}
use Rattle.std.proofs.lemmas.List.{take-append-le, drop-append-le, length-replicate}
use Rattle.phys_mem.specs.Region.{Region, replaced, is_inside}
use Rattle.phys_mem.specs.Regions.{rom_region, bytes_at, written}
use Rattle.store_laws.specs.Mapped.{Layout, regions_by, IsPlacedBy}
use Rattle.store_laws.proofs.Pieces.{replaced_later}

pub replaced_front : (head tail new : List ℕ) (k : ℕ) → k + length new ≤ length head → replaced (head ++ tail) k new ≡ replaced head k new ++ tail
replaced_front head tail new k le =
    let front : take k (head ++ tail) ≡ take k head = take-append-le k head tail (omega (arith, le)) in
    let back : drop (k + length new) (head ++ tail) ≡ drop (k + length new) head ++ tail = drop-append-le (k + length new) head tail le in
    ap (λ x. x ++ new ++ drop (k + length new) (head ++ tail)) front ∙ ap (λ x. take k head ++ new ++ x) back ∙ sym (append_assoc (take k head ++ new) (drop (k + length new) head) tail)

inside : (base len at n : ℕ) → base ≤ at → at + n ≤ base + len → is_inside base len at n ≡ true
inside base len at n le fits = grind (arith, nat_tests)

-- in the middle of a region
takes_middle : (pre heap post text : List ℕ) (base k : ℕ) → k + length text ≤ length heap → is_inside base (length (pre ++ heap ++ post)) (base + length pre + k) (length text) ≡ true
takes_middle pre heap post text base k le =
    let len : length (pre ++ heap ++ post) ≡ length pre + length heap + length post = length-append (pre ++ heap) post ∙ ap (λ n. n + length post) (length-append pre heap) in
    inside base (length (pre ++ heap ++ post)) (base + length pre + k) (length text) (omega arith) (omega (arith, len, le))

pub replaced_middle : (pre heap post text : List ℕ) (k : ℕ) → k + length text ≤ length heap → replaced (pre ++ heap ++ post) (length pre + k) text ≡ pre ++ replaced heap k text ++ post
replaced_middle pre heap post text k le =
    let fits : length pre + k + length text ≤ length (pre ++ heap) = omega (arith, le, length-append pre heap) in
    replaced_front (pre ++ heap) post text (length pre + k) fits ∙ ap (λ x. x ++ post) (replaced_later pre heap text (length pre + k) k refl)

pub write_region : (base : ℕ) (bytes : List ℕ) (others : List Region) (at place : ℕ) (text new : List ℕ) → is_inside base (length bytes) at (length text) ≡ true → at - base ≡ place → replaced bytes place text ≡ new
    → written (record { base = base; bytes = bytes; writable = true } ∷ others) at text ≡ Some (record { base = base; bytes = new; writable = true } ∷ others)
write_region base bytes others at place text new i e r =
    let here : replaced bytes (at - base) text ≡ new = ap (λ n. replaced bytes n text) e ∙ r in
    rw i (ap (λ x. Some (record { base = base; bytes = x; writable = true } ∷ others)) here)

pub write_by : (l : Layout) (moved : Bool) (heap text : List ℕ) (k : ℕ) → IsPlacedBy l moved → length heap ≡ l.len → k + length text ≤ length heap
    → written (regions_by l moved heap) (l.base + k) text ≡ Some (regions_by l moved (replaced heap k text))
write_by l false heap text k placed len le =
    let zeros = replicate (l.board.temp.len - l.len) 0 in
    let at : l.base + k ≡ l.board.temp.base + k = ap (λ n. n + k) placed.0 in
    let fits : is_inside l.board.temp.base (length (heap ++ zeros)) (l.base + k) (length text) ≡ true =
    inside l.board.temp.base (length (heap ++ zeros)) (l.base + k) (length text) (omega (arith, at)) (omega (arith, at, le, length-append heap zeros)) in
    write_region l.board.temp.base (heap ++ zeros) _ (l.base + k) k text (replaced heap k text ++ zeros) fits (omega (arith, at)) (replaced_front heap zeros text k le)
write_by l true heap text k placed len le =
    let pre = replicate (l.base - l.board.ram.base) 0 in
    let post = replicate (l.board.ram.base + l.board.ram.len - (l.base + l.len)) 0 in
    let size : length pre ≡ l.base - l.board.ram.base = length-replicate (l.base - l.board.ram.base) 0 in
    let at : l.board.ram.base + length pre + k ≡ l.base + k = omega (arith, size, placed.0) in
    let fits : is_inside l.board.ram.base (length (pre ++ heap ++ post)) (l.base + k) (length text) ≡ true =
    subst (λ n. is_inside l.board.ram.base (length (pre ++ heap ++ post)) n (length text) ≡ true) at (takes_middle pre heap post text l.board.ram.base k le) in
    let place : l.base + k - l.board.ram.base ≡ length pre + k = omega (arith, at) in
    write_region l.board.ram.base (pre ++ heap ++ post) _ (l.base + k) (length pre + k) text (pre ++ replaced heap k text ++ post) fits place (replaced_middle pre heap post text k le)

read_region : (region : Region) (others : List Region) (at place n : ℕ) (found : List ℕ) → is_inside region.base (length region.bytes) at n ≡ true → at - region.base ≡ place → take n (drop place region.bytes) ≡ found
    → bytes_at (region ∷ others) at n ≡ Some found
read_region region others at place n found i e r = rw i (ap (λ p. Some (take n (drop p region.bytes))) e ∙ ap Some r)

read_front : (head tail : List ℕ) (k n : ℕ) → k + n ≤ length head → take n (drop k (head ++ tail)) ≡ take n (drop k head)
read_front head tail k n le =
    ap (take n) (drop-append-le k head tail (omega (arith, le))) ∙ take-append-le n (drop k head) tail (omega (arith, le, length-drop k head))

read_middle : (pre heap post : List ℕ) (k n : ℕ) → k + n ≤ length heap → take n (drop (length pre + k) (pre ++ heap ++ post)) ≡ take n (drop k heap)
read_middle pre heap post k n le =
    read_front (pre ++ heap) post (length pre + k) n (omega (arith, le, length-append pre heap))
    ∙ ap (take n) (sym (drop-drop k (length pre) (pre ++ heap)) ∙ ap (drop k) (drop_at pre heap (length pre) refl))

pub read_by : (l : Layout) (moved : Bool) (heap : List ℕ) (k n : ℕ) → IsPlacedBy l moved → length heap ≡ l.len → k + n ≤ length heap
    → bytes_at (regions_by l moved heap) (l.base + k) n ≡ Some (take n (drop k heap))
read_by l false heap k n placed len le =
    let zeros = replicate (l.board.temp.len - l.len) 0 in
    let at : l.base + k ≡ l.board.temp.base + k = ap (λ n. n + k) placed.0 in
    let fits : is_inside l.board.temp.base (length (heap ++ zeros)) (l.base + k) n ≡ true =
    inside l.board.temp.base (length (heap ++ zeros)) (l.base + k) n (omega (arith, at)) (omega (arith, at, le, length-append heap zeros)) in
    read_region (record { base = l.board.temp.base; bytes = heap ++ zeros; writable = true }) (record { base = l.board.ram.base; bytes = replicate l.board.ram.len 0; writable = true } ∷ map rom_region l.board.roms) (l.base + k) k n (take n (drop k heap)) fits (omega (arith, at)) (read_front heap zeros k n le)
read_by l true heap k n placed len le =
    let pre = replicate (l.base - l.board.ram.base) 0 in
    let post = replicate (l.board.ram.base + l.board.ram.len - (l.base + l.len)) 0 in
    let size : length pre ≡ l.base - l.board.ram.base = length-replicate (l.base - l.board.ram.base) 0 in
    let at : l.base + k ≡ l.board.ram.base + length pre + k = omega (arith, size, placed.0) in
    let all : length (pre ++ heap ++ post) ≡ length pre + length heap + length post = length-append (pre ++ heap) post ∙ ap (λ n. n + length post) (length-append pre heap) in
    let fits : is_inside l.board.ram.base (length (pre ++ heap ++ post)) (l.base + k) n ≡ true =
    inside l.board.ram.base (length (pre ++ heap ++ post)) (l.base + k) n (omega (arith, at)) (omega (arith, at, all, le)) in
    let place : l.base + k - l.board.ram.base ≡ length pre + k = omega (arith, at) in
    read_region (record { base = l.board.ram.base; bytes = pre ++ heap ++ post; writable = true }) (map rom_region l.board.roms) (l.base + k) (length pre + k) n (take n (drop k heap)) fits place (read_middle pre heap post k n le)
