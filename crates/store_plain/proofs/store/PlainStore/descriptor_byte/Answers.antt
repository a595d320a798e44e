use Rattle.std.proofs.Common.{ap, ◌∙◌, ◌++◌}
use Rattle.store_plain.specs.{Peeking.byte_of, Words.words_bytes}
use Rattle.store_plain.proofs.Heap.{long_is, short_is}
use Rattle.store_plain.proofs.store.PlainStore.descriptor_byte.Goals as goal

pub returns-in-None : goal.returns-in-None
returns-in-None c =
    let d = c.args.d.now in
    let whole = c.as_slice.ensures ∙ c.long_bytes.ensures ∙ ap (λ words. words_bytes words ++ d.guid.0) c.descriptor_words-words.ensures ∙ long_is c.args.self.now.base c.args.place d c.in-None.is in
    c.byte_in.ensures ∙ ap (λ bytes. byte_of bytes c.args.at) whole

pub returns-in-Some : goal.returns-in-Some
returns-in-Some c =
    let d = c.args.d.now in
    let whole = c.as_slice-in-Some.ensures ∙ c.short_bytes.ensures ∙ ap words_bytes c.descriptor_words-words.ensures ∙ short_is c.args.self.now.base c.args.place c.in-Some.field-0 d c.in-Some.is in
    c.byte_in-in-Some.ensures ∙ ap (λ bytes. byte_of bytes c.args.at) whole
