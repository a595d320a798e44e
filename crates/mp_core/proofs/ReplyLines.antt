-- The lines of calls, one after another.
use Rattle.std.proofs.Common.{◌≡◌, ◌-◌, ◌≤◌, false, List, [], ◌∷◌, ◌++◌, length, take, drop, get_or, refl, sym, ap, ◌∙◌, arith}
use Rattle.std.proofs.lemmas.List.{take_rest}
use Rattle.mp_core.specs.{declared.event.MpEvent.MpEvent, declared.reply.MpReply.MpReply}
use Rattle.mp_core.specs.OutcomeText.{is_turn, reply_line, replies_text}

pub next_reply : (events : List MpEvent) (event : MpEvent) (replies : List MpReply) (other : MpReply) → event ≡ get_or events 0 event → 1 ≤ length events → 1 ≤ length replies → is_turn event ≡ false
    → replies_text events replies
    ≡ reply_line (event, get_or replies 0 other) ++ replies_text (take (length events - 1) (drop 1 events)) (take (length replies - 1) (drop 1 replies))
next_reply [] event replies other is some more call = absurd (omega (arith, some))
next_reply (x ∷ events) event [] other is some more call = absurd (omega (arith, more))
next_reply (x ∷ events) event (y ∷ replies) other is some more call =
    let same : is_turn x ≡ false = ap is_turn (sym is) ∙ call in
    rw (take_rest (x ∷ events) 1, take_rest (y ∷ replies) 1, is, same) refl
