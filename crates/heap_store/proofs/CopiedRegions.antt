-- A copy from one region to another that has no address of it.
use Rattle.std.proofs.Common.{◌≡◌, ◌⊎◌, ℕ, ◌+◌, ◌-◌, ◌<◌, ◌≤◌, Bool, true, false, cond, List, [], ◌∷◌, ◌++◌, length, take, drop, arith, ap, refl, sym, ◌∙◌, Some, append_assoc, ◌&&◌, ◌||◌, map, option_map}
use Rattle.std.proofs.lemmas.Bool.Decides.{nat_tests}
use Rattle.std.proofs.lemmas.List.{take-replicate, drop-replicate, replicate-append-replicate}
use Rattle.phys_mem.specs.Region.{Region, is_inside, replaced}
use Rattle.phys_mem.specs.Regions.{rom_region, bytes_at, written, share, copy_of, copied}
use Rattle.pi_base.specs.Lists.{Each}
use Rattle.store_model.specs.{StoreState.Board, StoreState.Rom, StateFacts.IsMapped}
use Rattle.heap_store.proofs.ListBytes.{zeros}
use Rattle.store_laws.proofs.Mapped.{write_region}

-- tests of ranges
not_inside : (base len at n : ℕ) → (at < base) ⊎ (base + len < at + n) → is_inside base len at n ≡ false
not_inside base len at n h = grind (arith, nat_tests, h)

pub is_in : (base len at n : ℕ) → base ≤ at → at + n ≤ base + len → is_inside base len at n ≡ true
is_in base len at n le fits = grind (arith, nat_tests)

-- a range in the one region is not in the other
pub away : (a_base a_len b_base b_len at n : ℕ) → (a_base + a_len ≤ b_base) ⊎ (b_base + b_len ≤ a_base) → 0 < n → a_base ≤ at → at + n ≤ a_base + a_len → is_inside b_base b_len at n ≡ false
away a_base a_len b_base b_len at n (◌⊎◌.inl h) pos le fits = not_inside b_base b_len at n (◌⊎◌.inl (omega (arith, h, pos, fits)))
away a_base a_len b_base b_len at n (◌⊎◌.inr h) pos le fits = not_inside b_base b_len at n (◌⊎◌.inr (omega (arith, h, pos, le)))

pub turned : (a b c d : ℕ) → (a ≤ b) ⊎ (c ≤ d) → (c ≤ d) ⊎ (a ≤ b)
turned a b c d (◌⊎◌.inl h) = ◌⊎◌.inr h
turned a b c d (◌⊎◌.inr h) = ◌⊎◌.inl h

pub roms_apart : (board : Board) (roms : List Rom) (from to n : ℕ) → Each (IsMapped board) roms → 0 < n → board.temp.base ≤ from → from + n ≤ board.temp.base + board.temp.len → share (map rom_region roms) from to n ≡ false
roms_apart board [] from to n h pos le fits = refl
roms_apart board (rom ∷ roms) from to n h pos le fits =
    let no : is_inside rom.base (length rom.bytes) from n ≡ false =
    away board.temp.base board.temp.len rom.base (length rom.bytes) from n h.0.temp pos le fits in
    rw no (roms_apart board roms from to n h.1 pos le fits)

grouped : (a b c d : List ℕ) → a ++ b ++ (c ++ d) ≡ a ++ (b ++ c) ++ d
grouped a b c d = sym (append_assoc (a ++ b) c d) ∙ ap (λ x. x ++ d) (append_assoc a b c)

-- zeros with a text in them
pub zeros_written : (text : List ℕ) (pre room post n : ℕ) → length text ≡ n → n ≤ room → replaced (zeros (pre + room + post)) pre text ≡ zeros pre ++ (text ++ zeros (room - n)) ++ zeros post
zeros_written text pre room post n len le =
    let all : ℕ = pre + room + post in
    let none : List ℕ = zeros all in
    let front : take pre none ≡ zeros pre = take-replicate pre all 0 (omega arith) in
    let left : all - (pre + length text) ≡ room - n + post = omega (arith, len, le) in
    let back : drop (pre + length text) none ≡ zeros (room - n) ++ zeros post = drop-replicate (pre + length text) all 0 ∙ ap (λ k. zeros k) left ∙ sym (replicate-append-replicate (room - n) post 0) in
    ap (λ x. x ++ text ++ drop (pre + length text) none) front ∙ ap (λ x. zeros pre ++ text ++ x) back ∙ grouped (zeros pre) text (zeros (room - n)) (zeros post)

past_on : (region : Region) (others new : List Region) (at : ℕ) (text : List ℕ) (w b : Bool) → b ≡ false → written others at text ≡ Some new
    → cond (w && b) (Some (record region { bytes = replaced region.bytes (at - region.base) text } ∷ others)) (option_map (λ rest. region ∷ rest) (written others at text)) ≡ Some (region ∷ new)
past_on region others new at text true true e h = cc
past_on region others new at text true false e h = ap (option_map (λ rest. region ∷ rest)) h
past_on region others new at text false b e h = ap (option_map (λ rest. region ∷ rest)) h

written_past : (region : Region) (others new : List Region) (at : ℕ) (text : List ℕ) → is_inside region.base (length region.bytes) at (length text) ≡ false → written others at text ≡ Some new → written (region ∷ others) at text ≡ Some (region ∷ new)
written_past region others new at text e h = past_on region others new at text region.writable (is_inside region.base (length region.bytes) at (length text)) e h

share_none : (a b c d e : Bool) → b ≡ false → c ≡ false → e ≡ false → ((a && b) || ((c && d) || e)) ≡ false
share_none true b c d e f g h = rw f (rw g h)
share_none false b c d e f g h = rw g h

not_shared : (old new : List Region) (from to n : ℕ) (text : List ℕ) → share old from to n ≡ false → bytes_at old from n ≡ Some text → written old to text ≡ Some new → copied old from to n ≡ Some new
not_shared old new from to n text apart read wrote = rw apart (ap (copy_of old to) read ∙ wrote)

-- the regions after a copy from the first to the second
pub copied_regions : (t_base : ℕ) (t_bytes : List ℕ) (r_base : ℕ) (r_bytes new : List ℕ) (others : List Region) (from to n : ℕ) (text : List ℕ)
    → is_inside t_base (length t_bytes) to n ≡ false → is_inside r_base (length r_bytes) from n ≡ false → share others from to n ≡ false
    → bytes_at (record { base = t_base; bytes = t_bytes; writable = true } ∷ record { base = r_base; bytes = r_bytes; writable = true } ∷ others) from n ≡ Some text
    → length text ≡ n → is_inside r_base (length r_bytes) to n ≡ true → replaced r_bytes (to - r_base) text ≡ new
    → copied (record { base = t_base; bytes = t_bytes; writable = true } ∷ record { base = r_base; bytes = r_bytes; writable = true } ∷ others) from to n
    ≡ Some (record { base = t_base; bytes = t_bytes; writable = true } ∷ record { base = r_base; bytes = new; writable = true } ∷ others)
copied_regions t_base t_bytes r_base r_bytes new others from to n text tf rf of read len rt is =
    let t : Region = record { base = t_base; bytes = t_bytes; writable = true } in
    let r : Region = record { base = r_base; bytes = r_bytes; writable = true } in
    let r_new : Region = record { base = r_base; bytes = new; writable = true } in
    let a : is_inside t_base (length t_bytes) to (length text) ≡ false = ap (is_inside t_base (length t_bytes) to) len ∙ tf in
    let b : is_inside r_base (length r_bytes) to (length text) ≡ true = ap (is_inside r_base (length r_bytes) to) len ∙ rt in
    let second : written (r ∷ others) to text ≡ Some (r_new ∷ others) = write_region r_base r_bytes others to (to - r_base) text new b refl is in
    let both : written (t ∷ r ∷ others) to text ≡ Some (t ∷ r_new ∷ others) = written_past t (r ∷ others) (r_new ∷ others) to text a second in
    not_shared (t ∷ r ∷ others) (t ∷ r_new ∷ others) from to n text (share_none (is_inside t_base (length t_bytes) from n) (is_inside t_base (length t_bytes) to n) (is_inside r_base (length r_bytes) from n) (is_inside r_base (length r_bytes) to n) (share others from to n) tf rf of) read both
