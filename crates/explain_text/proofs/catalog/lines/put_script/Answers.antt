use Rattle.std.proofs.Common.{Bool, ℕ, List, [], ◌++◌, ap, cond, flat_map, sym, ◌∙◌, append-nil}
use Rattle.pi_base.specs.{WordText.guid_text, declared.guid.Guid.Guid}
use Rattle.explain_text.specs.{Gives.given_in, Lines.gives_line, Words.word_of}
use Rattle.explain_text.specs.declared.keyword.Keyword.TheVariants as K
use Rattle.explain_text.proofs.HeldText.{next_added, on_ok}
use Rattle.explain_text.proofs.catalog.lines.put_script.Goals as goal

pub returns-then-gives_any : goal.returns-then-gives_any
returns-then-gives_any c =
    let out = c.args.out.now in
    let lines : List Guid → List ℕ = flat_map (λ guid. gives_line c.args.number c.args.phase (guid_text guid)) in
    let given = lines (given_in c.args.script.now) in
    let any = gives_line c.args.number c.args.phase (word_of K.Any) in
    let one = c.in_ok-put_given.ensures ∙ ap (λ (guids : List Guid). out ++ lines guids) (c.as_slice.ensures ∙ c.in_ok-guids.ensures) in
    on_ok c.put_gives_any.result _ _
    (λ put. next_added out c.put_given.new.out c.put_gives_any.new.out given any one put ∙ ap (λ (b : Bool). out ++ (given ++ cond b any [])) (sym c.if-gives_any.true ∙ c.gives_any.ensures)) c.put_gives_any.ensures

pub returns : goal.returns
returns c =
    let out = c.args.out.now in
    let lines : List Guid → List ℕ = flat_map (λ guid. gives_line c.args.number c.args.phase (guid_text guid)) in
    let given = lines (given_in c.args.script.now) in
    let any = gives_line c.args.number c.args.phase (word_of K.Any) in
    c.in_ok-put_given.ensures ∙ ap (λ (guids : List Guid). out ++ lines guids) (c.as_slice.ensures ∙ c.in_ok-guids.ensures)
    ∙ ap (λ t. out ++ t) (sym (append-nil given)) ∙ ap (λ (b : Bool). out ++ (given ++ cond b any [])) (sym c.if-gives_any.false ∙ c.gives_any.ensures)
