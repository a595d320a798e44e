use Rattle.std.proofs.Common.{◌≡◌, ℕ, ◌++◌, ◌∷◌, [], List, Option, Some, sym, ap, ◌∙◌, subst}
use Rattle.act_code.specs.{declared.action.Action.Action, declared.script.Script.Script, Reading.◌>>=◌, Reading.Fails}
use Rattle.asm_text.specs.{Drafts.with_action, Drafts.extended, Walk.split_last}
use Rattle.asm_text.proofs.Paths.{split_push}
use Rattle.asm_text.proofs.draft.extend.Goals as goal

-- the last block is the one that is extended
extended-last : (draft : Script) (line : List ℕ) (others : List (List Action)) (last : List Action) → draft.blocks ≡ others ++ last ∷ [] → extended draft line ≡ with_action draft.phase line (others, last)
extended-last draft line others last is = ap (λ parts. parts >>= with_action draft.phase line) (ap split_last is ∙ split_push others last)

pub returns-in_ok-push-in-Ok : goal.returns-in_ok-push-in-Ok
returns-in_ok-push-in-Ok c =
    let made : List (List Action) → Option Script = λ blocks. Some (record { phase = c.args.draft.now.phase; blocks = blocks }) in
    extended-last c.args.draft.now c.args.line.now c.pop.new.self c.in-Some.last c.in-Some.ensures.last ∙ c.in-Ok.ensures c.pop.new.self ∙ ap made (sym c.in_ok-push-in-Ok.ensures.ok)

pub returns-in-Err : goal.returns-in-Err
returns-in-Err c =
    subst (λ read. Fails c.in-Err.unread read) (sym (extended-last c.args.draft.now c.args.line.now c.pop.new.self c.in-Some.last c.in-Some.ensures.last)) (c.in-Err.ensures c.pop.new.self)
