use Rattle.std.proofs.Common.{◌∙◌, ◌∷◌, [], sym, ap, arith, length}
use Rattle.source_words.specs.Script.{first_fault}
use Rattle.source_words.proofs.Faults.{next_block, here_block, at_end, few_lines}
use Rattle.source_words.proofs.script.script.line_fault.Goals as goal

pub search-preserved : goal.search-preserved
search-preserved c =
    let xs = c.args.blocks.now in
    let x = c.index-blocks-index in
    let none = rw c.as_slice.ensures at c.in-None.ensures.first in
    let few = few_lines (length xs) c.split_at.result.0.now x.result none in
    let step = next_block (length xs) c.search.index c.search.place xs c.split_at.result.0.now x.result c.search-test.true x.is c.split_at.ensures.front none in
    rw c.len.ensures
    (c.search.invariant.0 ∙ step, omega (arith, few.0, c.split_at.ensures.front_len), omega (arith, few.1, c.search.invariant.2))

pub overflow_add-result : goal.overflow_add-result
overflow_add-result c = omega (arith, c.in-Some.ensures.near, c.search.invariant.1, c.search.invariant.2)

pub returns-in-Some : goal.returns-in-Some
returns-in-Some c =
    let xs = c.args.blocks.now in
    let x = c.index-blocks-index in
    let here = rw c.as_slice.ensures at c.in-Some.ensures.first in
    sym (c.search.invariant.0 ∙ here_block (length xs) c.search.index c.search.place c.in-Some.within c.in-Some.cause xs c.split_at.result.0.now x.result c.search-test.true x.is c.split_at.ensures.front here)

pub overflow_add-place : goal.overflow_add-place
overflow_add-place c =
    let none = rw c.as_slice.ensures at c.in-None.ensures.first in
    let few = few_lines (length c.args.blocks.now) c.split_at.result.0.now c.index-blocks-index.result none in
    omega (arith, few.1, c.len.ensures)

pub overflow_add-place-in-None : goal.overflow_add-place-in-None
overflow_add-place-in-None c =
    let none = rw c.as_slice.ensures at c.in-None.ensures.first in
    let few = few_lines (length c.args.blocks.now) c.split_at.result.0.now c.index-blocks-index.result none in
    omega (arith, few.1, c.len.ensures, c.search.invariant.1, c.search.invariant.2)

pub returns-in-Some-end_cause : goal.returns-in-Some-end_cause
returns-in-Some-end_cause c =
    let xs = c.args.blocks.now in
    sym (c.search.invariant.0 ∙ at_end (length xs) c.search.index c.search.place xs c.search-test.false ∙ ap (λ o. first_fault c.search.place (o ∷ [])) (sym c.in-Some-end_cause.ensures))

pub returns-in-None-end_cause : goal.returns-in-None-end_cause
returns-in-None-end_cause c =
    let xs = c.args.blocks.now in
    sym (c.search.invariant.0 ∙ at_end (length xs) c.search.index c.search.place xs c.search-test.false ∙ ap (λ o. first_fault c.search.place (o ∷ [])) (sym c.in-None-end_cause.ensures))
