use Rattle.std.proofs.Common.{◌≡◌, [], ◌∷◌, ◌++◌, Some, false, sym, ap, ◌∙◌, rules}
use Rattle.asm_text.specs.Walk.{step}
use Rattle.asm_text.proofs.{Paths.at, Paths.path_more, TreeEnds.walked_out, TreeEnds.walked_to}
use Rattle.asm_text.proofs.tree_reading.walk.Goals as goal

pub walk-init : goal.walk-init
walk-init c =
    let text = c.args.text.now in
    ([], ap (λ waiting. at text false waiting []) (sym c.requires.waiting) ∙ ap (λ code. at text false c.args.waiting.now code) (sym c.requires.code))

pub walk-preserved : goal.walk-preserved
walk-preserved c =
    let way = c.walk.invariant in
    let here = at c.walk.rest.now c.walk.ended c.walk.waiting c.walk.code in
    let there = at c.in-Some.behind.now c.in-Some.at_end c.go.new.waiting c.go.new.code in
    let next : step here ≡ Some there = search rules in
    (way.0 ++ there ∷ [], path_more (at c.args.text.now false [] []) way.0 here there way.1 next)

pub returns-in-None : goal.returns-in-None
returns-in-None c =
    let way = c.walk.invariant in
    walked_out c.args.text.now c.walk.rest.now c.walk.ended c.walk.waiting c.walk.code way.0 way.1 (rw c.in-None.is at c.in_ok-behind.ensures.goes) (c.goes_on.ensures.on c.walk-test.true)

pub returns : goal.returns
returns c =
    let way = c.walk.invariant in
    walked_to c.args.text.now c.walk.rest.now c.walk.ended c.walk.waiting c.walk.code way.0 way.1 (c.goes_on.ensures.end c.walk-test.false) c.is_empty.result c.is_empty.ensures
