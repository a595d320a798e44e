use Rattle.std.proofs.Common.{◌≡◌, ◌++◌, sym, ap, ◌∙◌, subst, arith}
use Rattle.boot_io.specs.Line.{spaced}
use Rattle.explain_text.specs.Flags.{flag}
use Rattle.explain_text.proofs.HeldText.{Walked, all_told, nobody, on_ok, one_more, some_left}
use Rattle.explain_text.proofs.held_lines.put_told.Goals as goal

pub told-init : goal.told-init
told-init c = nobody c.args.links.now c.args.first (flag c.args.started.now) c.args.out.now

pub told-preserved : goal.told-preserved
told-preserved c =
    one_more c.args.links.now c.args.first c.told.place (flag c.args.started.now) c.told.counter c.in-Some.link c.args.out.now c.told.out c.put_pair.new.out c.told.invariant
    (sym c.link_at.ensures ∙ c.in-Some.is) c.in_ok-put_pair.ensures

pub returns-in_default : goal.returns-in_default
returns-in_default c =
    all_told c.args.links.now c.args.first c.told.place (flag c.args.started.now) c.told.counter c.args.out.now c.told.out c.told.invariant c.told.auto.counter-end
    (sym c.link_at.ensures ∙ c.in_default.is)

pub returns-in-Some-link_at : goal.returns-in-Some-link_at
returns-in-Some-link_at c = λ numbers chain.
    let links = c.args.links.now in
    let started = flag c.args.started.now in
    let out = c.args.out.now in
    let all : c.told.counter ≡ 16 = omega arith in
    let walked : Walked links c.args.first c.told.place started 16 out c.told.out = subst (λ n. Walked links c.args.first c.told.place started n out c.told.out) all c.told.invariant in
    on_ok c.put_word.result _ _
    (λ put. some_left links c.args.first c.told.place started c.in-Some-link_at.field-0 out c.told.out c.put_word.new.out walked (sym c.link_at-2.ensures ∙ c.in-Some-link_at.is)
    (put ∙ ap (λ word. c.told.out ++ spaced word) c.word_of.ensures) numbers chain) c.put_word.ensures

pub returns-in-None : goal.returns-in-None
returns-in-None c =
    all_told c.args.links.now c.args.first c.told.place (flag c.args.started.now) c.told.counter c.args.out.now c.told.out c.told.invariant c.told.auto.counter-end
    (sym c.link_at-2.ensures ∙ c.in-None.is)
