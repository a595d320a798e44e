use Rattle.std.proofs.Common.{◌≡◌, rules, ℕ, true, if◌then◌else◌, Option, Some, None, sym, ap, ◌∙◌}
use Rattle.std.specs.Option.{option_or}
use Rattle.explain_text.specs.declared.reasons.Moved.{Moved}
use Rattle.store_model.specs.StoreState.{StoreState}
use Rattle.boot_reasons.specs.Moving.{heap_used, moved_from}
use Rattle.boot_reasons.proofs.moves.first_move.Goals as goal

-- the move from a base, by its parts
told_now : (told : Option Moved) (from : Option ℕ) (s : StoreState) (base to used : ℕ) → told ≡ None → from ≡ Some base → s.moved ≡ true → to ≡ s.base → used ≡ heap_used s
    → Some (record { from = base; to = to; used = used }) ≡ option_or told (moved_from from s)
told_now told from s base to used none some moved there many =
    ap (λ to. Some (record { from = base; to = to; used = used })) there
    ∙ ap (λ used. Some (record { from = base; to = s.base; used = used })) many
    ∙ sym (ap (λ told. option_or told (moved_from from s)) none ∙ ap (λ from. moved_from from s) some ∙ ap (λ b. if b then Some (record { from = base; to = s.base; used = heap_used s }) else None) moved)

pub moved-requires : goal.moved-requires
moved-requires g c = record { state = c.requires.state }

pub heap_used-requires : goal.heap_used-requires
heap_used-requires g c = record { state = c.requires.state }

pub returns-in-Some : goal.returns-in-Some
returns-in-Some g c s stands any = sym (ap (λ told. option_or told (moved_from c.args.from s)) c.in-Some.is)

pub returns-in-Some-from : goal.returns-in-Some-from
returns-in-Some-from g c s stands any =
    told_now c.args.told c.args.from s c.in-Some-from.from _ c.heap_used.result c.in-None.is c.in-Some-from.is (sym (c.moved.ensures.row s stands any) ∙ c.if-moved.true) (search (rules)) (c.heap_used.ensures s stands any)
