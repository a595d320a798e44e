use Rattle.std.proofs.Common.{sym, ◌∙◌}
use Rattle.gcd_map.proofs.WordCuts.{Cuts, filled, bare, many_words, four_words, three_words, few_words}
use Rattle.gcd_map.proofs.command.read_command.Goals as goal

pub returns-then-not-is_empty : goal.returns-then-not-is_empty
returns-then-not-is_empty c =
    let line = c.args.line.now in let one = c.first_word in let two = c.first_word-2 in let three = c.first_word-3 in let four = c.first_word-4 in let five = c.first_word-5 in
    let cuts : Cuts line one.result.0.now one.result.1.now two.result.0.now two.result.1.now three.result.0.now three.result.1.now four.result.0.now four.result.1.now five.result.0.now five.result.1.now = record {
      one = record { words = one.ensures.words; some = one.ensures.some; none = one.ensures.none };
      two = record { words = two.ensures.words; some = two.ensures.some; none = two.ensures.none };
      three = record { words = three.ensures.words; some = three.ensures.some; none = three.ensures.none };
      four = record { words = four.ensures.words; some = four.ensures.some; none = four.ensures.none };
      five = record { words = five.ensures.words; some = five.ensures.some; none = five.ensures.none };
    } in
    sym (many_words line _ _ _ _ _ _ _ _ _ _ (sym c.if-not-is_plain.ensures) cuts (filled _ c.if-not-is_empty.ensures))

pub returns-then-not-is_empty-2 : goal.returns-then-not-is_empty-2
returns-then-not-is_empty-2 c =
    let line = c.args.line.now in let one = c.first_word in let two = c.first_word-2 in let three = c.first_word-3 in let four = c.first_word-4 in let five = c.first_word-5 in
    let cuts : Cuts line one.result.0.now one.result.1.now two.result.0.now two.result.1.now three.result.0.now three.result.1.now four.result.0.now four.result.1.now five.result.0.now five.result.1.now = record {
      one = record { words = one.ensures.words; some = one.ensures.some; none = one.ensures.none };
      two = record { words = two.ensures.words; some = two.ensures.some; none = two.ensures.none };
      three = record { words = three.ensures.words; some = three.ensures.some; none = three.ensures.none };
      four = record { words = four.ensures.words; some = four.ensures.some; none = four.ensures.none };
      five = record { words = five.ensures.words; some = five.ensures.some; none = five.ensures.none };
    } in
    c.long_command.ensures ∙ sym (four_words line _ _ _ _ _ _ _ _ _ _ (sym c.if-not-is_plain.ensures) cuts (bare _ c.if-not-is_empty.ensures) (filled _ c.if-not-is_empty-2.ensures))

pub returns-then-not-is_empty-3 : goal.returns-then-not-is_empty-3
returns-then-not-is_empty-3 c =
    let line = c.args.line.now in let one = c.first_word in let two = c.first_word-2 in let three = c.first_word-3 in let four = c.first_word-4 in let five = c.first_word-5 in
    let cuts : Cuts line one.result.0.now one.result.1.now two.result.0.now two.result.1.now three.result.0.now three.result.1.now four.result.0.now four.result.1.now five.result.0.now five.result.1.now = record {
      one = record { words = one.ensures.words; some = one.ensures.some; none = one.ensures.none };
      two = record { words = two.ensures.words; some = two.ensures.some; none = two.ensures.none };
      three = record { words = three.ensures.words; some = three.ensures.some; none = three.ensures.none };
      four = record { words = four.ensures.words; some = four.ensures.some; none = four.ensures.none };
      five = record { words = five.ensures.words; some = five.ensures.some; none = five.ensures.none };
    } in
    c.short_command.ensures ∙ sym (three_words line _ _ _ _ _ _ _ _ _ _ (sym c.if-not-is_plain.ensures) cuts (bare _ c.if-not-is_empty-2.ensures) (filled _ c.if-not-is_empty-3.ensures))

pub returns-else-not-is_empty-3 : goal.returns-else-not-is_empty-3
returns-else-not-is_empty-3 c =
    let line = c.args.line.now in let one = c.first_word in let two = c.first_word-2 in let three = c.first_word-3 in let four = c.first_word-4 in let five = c.first_word-5 in
    let cuts : Cuts line one.result.0.now one.result.1.now two.result.0.now two.result.1.now three.result.0.now three.result.1.now four.result.0.now four.result.1.now five.result.0.now five.result.1.now = record {
      one = record { words = one.ensures.words; some = one.ensures.some; none = one.ensures.none };
      two = record { words = two.ensures.words; some = two.ensures.some; none = two.ensures.none };
      three = record { words = three.ensures.words; some = three.ensures.some; none = three.ensures.none };
      four = record { words = four.ensures.words; some = four.ensures.some; none = four.ensures.none };
      five = record { words = five.ensures.words; some = five.ensures.some; none = five.ensures.none };
    } in
    sym (few_words line _ _ _ _ _ _ _ _ _ _ (sym c.if-not-is_plain.ensures) cuts (filled _ c.if-is_empty.ensures) (bare _ c.if-not-is_empty-3.ensures))
