use Rattle.std.proofs.Common.{ℕ, Bool, List, Option, ◌++◌, flat_map, sym, ap, ◌∙◌, subst}
use Rattle.boot_io.specs.Line.{spaced}
use Rattle.pi_base.specs.GuidMap.{value_of}
use Rattle.explain_text.specs.{declared.givers.Link.Link, Flags.flag, Givers.Chain, Givers.givers_from, Words.word_of}
use Rattle.explain_text.specs.declared.keyword.Keyword.TheVariants as K
use Rattle.explain_text.specs.HeldLines.{or_dash, told_words, with_core}
use Rattle.explain_text.proofs.HeldText.{nobody_told, on_ok, somebody_told, three_added, words_with, words_without}
use Rattle.explain_text.proofs.held_lines.put_givers.Goals as goal

pub returns-then-core_gives : goal.returns-then-core_gives
returns-then-core_gives c = λ begun modules is.
    let out = c.args.out.now in
    let context = c.args.context.now in
    let guid = c.args.guid.now in
    let numbers = givers_from c.args.phase guid 0 modules in
    let P : Option ℕ → Type 0 = λ place. Chain c.as_slice-links.result.now place numbers in
    let Q : List Link → Type 0 = λ links. Chain links (value_of context.givers.first guid) numbers in
    let chain = subst P (sym c.get-first.ensures) (subst Q (sym c.as_slice-links.ensures) (is.givers guid)) in
    on_ok c.put_told.result _ _
    (λ put. three_added out c.put_word.new.out c.put_word-then-core_gives.new.out c.put_told.new.out (spaced (word_of K.Core)) (spaced (word_of K.Waits)) (flat_map spaced (told_words (flag c.as_slice-started.result.now) numbers))
    (c.in_ok-put_word.ensures ∙ ap (λ word. out ++ spaced word) c.word_of.ensures) (c.in_ok-put_word-2.ensures ∙ ap (λ word. c.put_word.new.out ++ spaced word) c.word_of-then-core_gives.ensures) put
    ∙ ap (λ (flags : List Bool). out ++ flat_map spaced (with_core (told_words (flag flags) numbers))) c.as_slice-started.ensures
    ∙ ap (λ words. out ++ flat_map spaced words) (words_with begun modules c.args.phase guid context is (sym c.core_gives.ensures ∙ c.if-core_gives.true)))
    (c.put_told.ensures numbers chain)

pub returns-in-Some : goal.returns-in-Some
returns-in-Some c = λ begun modules is.
    let out = c.args.out.now in
    let context = c.args.context.now in
    let guid = c.args.guid.now in
    let numbers = givers_from c.args.phase guid 0 modules in
    let P : Option ℕ → Type 0 = λ place. Chain c.as_slice-links.result.now place numbers in
    let Q : List Link → Type 0 = λ links. Chain links (value_of context.givers.first guid) numbers in
    let chain = subst P (sym c.get-first.ensures) (subst Q (sym c.as_slice-links.ensures) (is.givers guid)) in
    on_ok c.put_told-in-Some.result _ _
    (λ put. put ∙ ap (λ words. out ++ flat_map spaced words) (somebody_told c.as_slice-links.result.now c.get-first.result (flag c.as_slice-started.result.now) c.in-Some.field-0 (sym c.link_at.ensures ∙ c.in-Some.is) numbers chain)
    ∙ ap (λ (flags : List Bool). out ++ flat_map spaced (or_dash (told_words (flag flags) numbers))) c.as_slice-started.ensures
    ∙ ap (λ words. out ++ flat_map spaced words) (words_without begun modules c.args.phase guid context is (sym c.core_gives.ensures ∙ c.if-core_gives.false)))
    (c.put_told-in-Some.ensures numbers chain)

pub returns-in-None : goal.returns-in-None
returns-in-None c = λ begun modules is.
    let out = c.args.out.now in
    let context = c.args.context.now in
    let guid = c.args.guid.now in
    let numbers = givers_from c.args.phase guid 0 modules in
    let P : Option ℕ → Type 0 = λ place. Chain c.as_slice-links.result.now place numbers in
    let Q : List Link → Type 0 = λ links. Chain links (value_of context.givers.first guid) numbers in
    let chain = subst P (sym c.get-first.ensures) (subst Q (sym c.as_slice-links.ensures) (is.givers guid)) in
    on_ok c.put_word-in-None.result _ _
    (λ put. put ∙ ap (λ word. out ++ spaced word) c.word_of-in-None.ensures
    ∙ ap (λ text. out ++ text) (nobody_told c.as_slice-links.result.now c.get-first.result (flag c.as_slice-started.result.now) (sym c.link_at.ensures ∙ c.in-None.is) numbers chain)
    ∙ ap (λ (flags : List Bool). out ++ flat_map spaced (or_dash (told_words (flag flags) numbers))) c.as_slice-started.ensures
    ∙ ap (λ words. out ++ flat_map spaced words) (words_without begun modules c.args.phase guid context is (sym c.core_gives.ensures ∙ c.if-core_gives.false)))
    c.put_word-in-None.ensures
