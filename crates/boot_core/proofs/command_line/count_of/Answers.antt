use Rattle.std.proofs.Common.{◌≡◌, arith, sym, ◌∙◌, subst, true≢false}
use Rattle.std.proofs.lemmas.Fmt.{parse-decimal}
use Rattle.boot_core.specs.CommandLine.{IsCount}
use Rattle.boot_core.proofs.command_line.count_of.Goals as goal

pub returns-else-is_count-clause-none : goal.returns-else-is_count-clause-none
returns-else-is_count-clause-none c number is =
    let most = is.most in
    let parsed = parse-decimal 32 number c.args.word.now c.parse.result (omega (arith, most)) (omega (arith, most)) is.word_is c.parse.ensures.value.0 in
    let same : number ≡ c.in-Ok.number = cc in
    let here : IsCount c.as_bytes.result.now c.in-Ok.number = subst (λ n. IsCount c.as_bytes.result.now n) same (subst (λ w. IsCount w number) (sym c.as_bytes.ensures.value) is) in
    true≢false (sym (c.is_count.ensures.1 here) ∙ c.if-is_count.false)

pub returns-in-Err-clause-none : goal.returns-in-Err-clause-none
returns-in-Err-clause-none c number is =
    let most = is.most in
    let parsed = parse-decimal 32 number c.args.word.now c.parse.result (omega (arith, most)) (omega (arith, most)) is.word_is c.parse.ensures.value.0 in
    cc
