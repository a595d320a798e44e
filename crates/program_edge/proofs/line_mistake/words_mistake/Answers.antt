use Rattle.std.proofs.Common.{◌≡◌, ◌<◌, ℕ, ◌∷◌, [], length, inl, inr, refl, sym, ◌∙◌, arith}
use Rattle.std.proofs.lemmas.Bool.{cases_lt}
use Rattle.line_words.specs.Words.{words}
use Rattle.program_edge.specs.{declared.kind.Kind.Kind, Mistake.word_count}
use Rattle.program_edge.specs.declared.kind.Kind.TheVariants.{Temp, Ram, Volume, Fuel, Pages}
use Rattle.program_edge.proofs.line_mistake.words_mistake.Goals as goal

few_words : (kind : Kind) → word_count kind < 4
few_words Temp = omega arith
few_words Ram = omega arith
few_words Volume = omega arith
few_words Fuel = omega arith
few_words Pages = omega arith

-- a line that has as many words as its kind was counted so
counted_so : (all counted : ℕ) (kind : Kind) → (counted < 4 → all ≡ counted) → (3 < counted → 3 < all) → all ≡ word_count kind
    → counted ≡ word_count kind
counted_so all counted kind few many same =
    elim (cases_lt counted 4) [
      | inl under ↦ sym (few under) ∙ same
      | inr over ↦ absurd (omega (arith, few_words kind, same, many over))
    ]

pub returns-in-32 : goal.returns-in-32
returns-in-32 c = inl (c.in_ok-word.ensures.found (words c.args.line.now) c.shape_of-shape.ensures)

pub returns-in_default-kind_of : goal.returns-in_default-kind_of
returns-in_default-kind_of c =
    inl (c.in_ok-word.ensures.found (words c.args.line.now) c.shape_of-shape.ensures, c.in_default-kind_of.ensures.none)

pub returns-then-count_of-word_count : goal.returns-then-count_of-word_count
returns-then-count_of-word_count c =
    let all = words c.args.line.now in
    let counted = c.count_of.ensures all c.shape_of-shape.ensures in
    let first = c.in_ok-word.ensures.found all c.shape_of-shape.ensures in
    let as_counted = counted_so (length all) c.count_of.result c.in-Some.kind counted.0 counted.1 in
    inl (first, c.in-Some.ensures.found, λ same. c.if-count_of-word_count.true (as_counted same ∙ sym c.word_count.ensures))

pub returns-in-Three : goal.returns-in-Three
returns-in-Three c =
    let three = c.in-Three in
    let is = rw three.is at c.shape_of-shape.ensures in
    inl ((three.field-0.now, three.field-1.now ∷ three.name.now ∷ [], is, (1, omega arith, refl)), c.if-name-gt-MOST_NAME.true)
