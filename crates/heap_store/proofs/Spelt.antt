-- Three numbers and their bytes.
use Rattle.std.proofs.Common.{◌≡◌, ◌+◌, ◌-◌, ◌≤◌, ◌<◌, ◌^◌, ℕ, List, [], ◌∷◌, ◌++◌, length, take, drop, refl, ap, ◌∙◌, Some, arith, length-take, length-drop}
use Rattle.pi_base.specs.Field.{little_number, little_bytes, ReadsWhatItSpells}
use Rattle.phys_mem.specs.{Regions.regions, Regions.bytes_at, declared.memory.PhysMem.PhysMem}
use Rattle.store_laws.specs.Mapped.{Layout, HasHeap}
use Rattle.store_laws.proofs.Words.{has_read}
use Rattle.heap_store.specs.{WordBytes.words_bytes, declared.words.Words.Words}

pub words_len : (words : Words) → length (words_bytes words) ≡ 24
unfolding words_bytes
words_len words = refl

append_nil : (xs : List ℕ) → xs ++ [] ≡ xs
append_nil [] = refl
append_nil (x ∷ xs) = ap (λ rest. x ∷ rest) (append_nil xs)

pub first_is : ReadsWhatItSpells → (words : Words) (bytes : List ℕ) → bytes ≡ words_bytes words → words.first < 256 ^ 8 → little_number 8 (drop 0 bytes) ≡ words.first
unfolding words_bytes
first_is law words bytes is fits = ap (λ (x : List ℕ). little_number 8 x) is ∙ law 8 words.first (little_bytes 8 words.second ++ little_bytes 8 words.third) fits

pub second_is : ReadsWhatItSpells → (words : Words) (bytes : List ℕ) → bytes ≡ words_bytes words → words.second < 256 ^ 8 → little_number 8 (drop 8 bytes) ≡ words.second
unfolding words_bytes
second_is law words bytes is fits = ap (λ (x : List ℕ). little_number 8 (drop 8 x)) is ∙ law 8 words.second (little_bytes 8 words.third) fits

pub third_is : ReadsWhatItSpells → (words : Words) (bytes : List ℕ) → bytes ≡ words_bytes words → words.third < 256 ^ 8 → little_number 8 (drop 16 bytes) ≡ words.third
unfolding words_bytes
third_is law words bytes is fits = ap (λ (x : List ℕ). little_number 8 (drop 16 x)) is ∙ law 8 words.third [] fits

same_some : (xs ys : List ℕ) → Some xs ≡ Some ys → xs ≡ ys
same_some xs ys h = cc

part_len : (heap : List ℕ) (k : ℕ) → k + 24 ≤ length heap → length (take 24 (drop k heap)) ≡ 24
part_len heap k le = grind (arith, length-take, length-drop, le)

-- what is read has its length
pub read_len : (l : Layout) (heap : List ℕ) (memory : PhysMem) (at : ℕ) (bytes : List ℕ) → Some bytes ≡ bytes_at (regions memory) at 24 → HasHeap l heap memory → l.base ≤ at → at + 24 ≤ l.base + l.len → length bytes ≡ 24
read_len l heap memory at bytes told has le fits =
    let same : bytes ≡ take 24 (drop (at - l.base) heap) = same_some _ _ (told ∙ has_read l heap memory at 24 has le fits) in
    ap (λ (x : List ℕ). length x) same ∙ part_len heap (at - l.base) (omega (arith, le, fits, has.len))
