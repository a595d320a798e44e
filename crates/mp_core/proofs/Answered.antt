-- Each call has a reply.
use Rattle.std.proofs.Common.{◌≡◌, ℕ, suc, List, [], ◌∷◌, length, refl, ap}
use Rattle.mp_core.specs.{declared.event.MpEvent.MpEvent, OutcomeText.calls}
use Rattle.mp_core.specs.declared.event.MpEvent.TheVariants.{All, This, Enable, Switch, Who, Turn}
use Rattle.mp_core.specs.Past.{Past, after, opening, replies, replies_from}

answered_from : (processors : ℕ) (past : Past) (events : List MpEvent) → length (replies_from processors past events) ≡ length (calls events)
answered_from processors past [] = refl
answered_from processors past (All by job ∷ later) = ap suc (answered_from processors (after processors past (All by job)) later)
answered_from processors past (This by on job ∷ later) = ap suc (answered_from processors (after processors past (This by on job)) later)
answered_from processors past (Enable by on enabled ∷ later) = ap suc (answered_from processors (after processors past (Enable by on enabled)) later)
answered_from processors past (Switch by on enabled ∷ later) = ap suc (answered_from processors (after processors past (Switch by on enabled)) later)
answered_from processors past (Who by ∷ later) = ap suc (answered_from processors (after processors past (Who by)) later)
answered_from processors past (Turn on ∷ later) = answered_from processors (after processors past (Turn on)) later

pub answered : (processors : ℕ) (events : List MpEvent) → length (replies processors events) ≡ length (calls events)
answered processors events = answered_from processors opening events
