use Rattle.std.proofs.Common.{◌≡◌, ◌-◌, ℕ, List, length, take, drop, ap, ◌∙◌, Some, None, arith}
use Rattle.phys_mem.specs.Regions.{regions, bytes_at}
use Rattle.store_laws.proofs.Words.{has_read}
use Rattle.heap_store.specs.{WordBytes.words_bytes, declared.words.Words.Words}
use Rattle.heap_store.proofs.Spelt.{first_is, second_is, third_is, read_len}
use Rattle.heap_store.proofs.words.words_at.Goals as goal

pub copy_to-requires : goal.copy_to-requires
copy_to-requires c =
    let h = c.requires.heap in
    let len = read_len h.0 h.1 c.args.memory.now c.args.at c.in-Some.stretch c.in-Some.ensures h.2 h.3 h.4 in omega (arith, len, ap length c.as_mut_slice.ensures.value)

pub unreachable-requires : goal.unreachable-requires
unreachable-requires c =
    let h = c.requires.heap in
    let found = has_read h.0 h.1 c.args.memory.now c.args.at 24 h.2 h.3 h.4 in
    let told : None ≡ bytes_at (regions c.args.memory.now) c.args.at 24 = c.in-None.ensures in
    let no : None ≡ Some (take 24 (drop (c.args.at - h.0.base) h.1)) = told ∙ found in cc

same_some : (xs ys : List ℕ) → Some xs ≡ Some ys → xs ≡ ys
same_some xs ys h = cc

same_words : (words : Words) (a b c : ℕ) → a ≡ words.first → b ≡ words.second → c ≡ words.third → record { first = a; second = b; third = c } ≡ words
same_words words a b c x y z = ap (λ n. record { first = n; second = b; third = c }) x ∙ ap (λ n. record { first = words.first; second = n; third = c }) y ∙ ap (λ n. record { first = words.first; second = words.second; third = n }) z

pub returns : goal.returns
returns c l heap words has le fits is a b d =
    let found = has_read l heap c.args.memory.now c.args.at 24 has le fits in
    let told : Some c.in-Some.stretch ≡ bytes_at (regions c.args.memory.now) c.args.at 24 = c.in-Some.ensures in
    let same : c.copy_to.new.into ≡ words_bytes words = c.copy_to.ensures ∙ same_some _ _ (told ∙ found) ∙ is in
    let law = c.little_endian.ensures.read in
    same_words words c.u64_at.result c.u64_at-in-Some.result c.u64_at-in-Some-2.result
    (c.u64_at.ensures ∙ first_is law words c.as_slice.result.now (c.as_slice.ensures ∙ same) a)
    (c.u64_at-in-Some.ensures ∙ second_is law words c.as_slice-in-Some.result.now (c.as_slice-in-Some.ensures ∙ same) b)
    (c.u64_at-in-Some-2.ensures ∙ third_is law words c.as_slice-in-Some-2.result.now (c.as_slice-in-Some-2.ensures ∙ same) d)
