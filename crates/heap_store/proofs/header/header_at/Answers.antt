use Rattle.std.proofs.Common.{◌≡◌, ◌+◌, ◌-◌, ◌≤◌, ◌<◌, ◌^◌, ℕ, List, ◌++◌, length, take, drop, ap, ◌∙◌, Some, None, arith, length-take, length-drop, replicate}
use Rattle.pi_base.specs.Field.{little_number, little_bytes, ReadsWhatItSpells}
use Rattle.phys_mem.specs.{Regions.regions, Regions.bytes_at, declared.memory.PhysMem.PhysMem}
use Rattle.store_model.specs.HeapImage.{header_bytes}
use Rattle.store_laws.specs.Mapped.{Layout, HasHeap}
use Rattle.store_laws.proofs.Words.{has_read}
use Rattle.heap_store.specs.declared.header.Header.{Header}
use Rattle.heap_store.proofs.header.header_at.Goals as goal

same_some : (xs ys : List ℕ) → Some xs ≡ Some ys → xs ≡ ys
same_some xs ys h = cc

part_len : (heap : List ℕ) (k : ℕ) → k + 8 ≤ length heap → length (take 8 (drop k heap)) ≡ 8
part_len heap k le = grind (arith, length-take, length-drop, le)

read_len : (l : Layout) (heap : List ℕ) (memory : PhysMem) (at : ℕ) (bytes : List ℕ) → Some bytes ≡ bytes_at (regions memory) at 8 → HasHeap l heap memory → l.base ≤ at → at + 8 ≤ l.base + l.len → length bytes ≡ 8
read_len l heap memory at bytes told has le fits =
    let same : bytes ≡ take 8 (drop (at - l.base) heap) = same_some _ _ (told ∙ has_read l heap memory at 8 has le fits) in
    ap (λ (x : List ℕ). length x) same ∙ part_len heap (at - l.base) (omega (arith, le, fits, has.len))

kind_is : ReadsWhatItSpells → (header : Header) (bytes : List ℕ) → bytes ≡ header_bytes header.kind header.len → header.kind < 256 ^ 2 → little_number 2 (drop 0 bytes) ≡ header.kind
kind_is law header bytes is fits = ap (λ (x : List ℕ). little_number 2 x) is ∙ law 2 header.kind (little_bytes 2 header.len ++ replicate 4 0) fits

len_is : ReadsWhatItSpells → (header : Header) (bytes : List ℕ) → bytes ≡ header_bytes header.kind header.len → header.len < 256 ^ 2 → little_number 2 (drop 2 bytes) ≡ header.len
len_is law header bytes is fits = ap (λ (x : List ℕ). little_number 2 (drop 2 x)) is ∙ law 2 header.len (replicate 4 0) fits

same_header : (header : Header) (a b : ℕ) → a ≡ header.kind → b ≡ header.len → record { kind = a; len = b } ≡ header
same_header header a b x y = ap (λ n. record { kind = n; len = b }) x ∙ ap (λ n. record { kind = header.kind; len = n }) y

pub copy_to-requires : goal.copy_to-requires
copy_to-requires c =
    let h = c.requires.heap in
    let len = read_len h.0 h.1 c.args.memory.now c.args.at c.in-Some.stretch c.in-Some.ensures h.2 h.3 h.4 in omega (arith, len, ap length c.as_mut_slice.ensures.value)

pub unreachable-requires : goal.unreachable-requires
unreachable-requires c =
    let h = c.requires.heap in
    let found = has_read h.0 h.1 c.args.memory.now c.args.at 8 h.2 h.3 h.4 in
    let told : None ≡ bytes_at (regions c.args.memory.now) c.args.at 8 = c.in-None.ensures in
    let no : None ≡ Some (take 8 (drop (c.args.at - h.0.base) h.1)) = told ∙ found in cc

pub returns : goal.returns
returns c l heap header has le fits is a b =
    let found = has_read l heap c.args.memory.now c.args.at 8 has le fits in
    let told : Some c.in-Some.stretch ≡ bytes_at (regions c.args.memory.now) c.args.at 8 = c.in-Some.ensures in
    let same : c.copy_to.new.into ≡ header_bytes header.kind header.len = c.copy_to.ensures ∙ same_some _ _ (told ∙ found) ∙ is in
    let law = c.little_endian.ensures.read in
    same_header header c.u16_at.result c.u16_at-in-Some.result (c.u16_at.ensures ∙ kind_is law header c.as_slice.result.now (c.as_slice.ensures ∙ same) a)
    (c.u16_at-in-Some.ensures ∙ len_is law header c.as_slice-in-Some.result.now (c.as_slice-in-Some.ensures ∙ same) b)
