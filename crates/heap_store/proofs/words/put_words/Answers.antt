use Rattle.std.proofs.Common.{◌≡◌, ◌+◌, ◌-◌, ◌≤◌, ℕ, List, length, false, true, sym, ap, ◌∙◌, subst}
use Rattle.phys_mem.specs.Region.{replaced}
use Rattle.store_laws.specs.Mapped.{HasHeap}
use Rattle.store_laws.proofs.Words.{has_written}
use Rattle.heap_store.specs.WordBytes.{words_bytes}
use Rattle.heap_store.proofs.Spelt.{words_len}
use Rattle.heap_store.proofs.words.put_words.Goals as goal

pub unreachable-requires : goal.unreachable-requires
unreachable-requires c =
    let h = c.requires.heap in
    let text : c.as_slice.result.now ≡ words_bytes c.args.words = c.as_slice.ensures ∙ c.spell.ensures in
    let len : length c.as_slice.result.now ≡ 24 = ap length text ∙ words_len c.args.words in
    let fits : c.args.at + length c.as_slice.result.now ≤ h.0.base + h.0.len = subst (λ n. c.args.at + n ≤ h.0.base + h.0.len) (sym len) h.4 in
    let told = has_written h.0 h.1 c.as_slice.result.now c.args.memory.now c.write.new.self c.args.at c.write.result c.write.ensures h.2 h.3 fits in
    let t : c.write.result ≡ true = told.0 in let f : c.write.result ≡ false = c.if-not-write.true in cc

pub returns : goal.returns
returns c l heap has le fits =
    let text : c.as_slice.result.now ≡ words_bytes c.args.words = c.as_slice.ensures ∙ c.spell.ensures in
    let len : length c.as_slice.result.now ≡ 24 = ap length text ∙ words_len c.args.words in
    let room : c.args.at + length c.as_slice.result.now ≤ l.base + l.len = subst (λ n. c.args.at + n ≤ l.base + l.len) (sym len) fits in
    let told = has_written l heap c.as_slice.result.now c.args.memory.now c.write.new.self c.args.at c.write.result c.write.ensures has le room in
    subst (λ (x : List ℕ). HasHeap l (replaced heap (c.args.at - l.base) x) c.write.new.self) text told.1
