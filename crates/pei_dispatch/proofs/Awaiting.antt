-- The parts of the order so far that await their second start, and one more.
use Rattle.std.proofs.Common.{◌≡◌, ◌<◌, ◌+◌, ℕ, Bool, true, false, ◌||◌, ◌&&◌, ◌==◌, List, [], ◌∷◌, get_or, take, length, arith, refl, sym, ap, ◌∙◌}
use Rattle.std.proofs.{lemmas.Bool.Decides.nat_tests, lemmas.List.take_more}
use Rattle.mod_catalog.specs.Parts.{has_number}
use Rattle.boot_model.specs.{PeimState.state_at, declared.peim_state.PeimState.PeimState}
use Rattle.pei_dispatch.specs.View.{awaits_again, awaits_at}
use Rattle.pei_dispatch.proofs.Numbers.{has_append}

or_false : (b : Bool) → (b || false) ≡ b
or_false true = refl
or_false false = refl

both : (a b w v : Bool) → (b ≡ true → v ≡ w) → ((a && w) || (b && v)) ≡ ((a || b) && w)
both true true true v h = refl
both true true false v h = h refl
both true false w v h = or_false w
both false true w v h = h refl
both false false w v h = refl

pub one_more : (order : List ℕ) (states : List PeimState) (i number n : ℕ) (state : PeimState) → i < length order → number ≡ get_or order i 0 → state ≡ state_at states number
    → ((has_number (take i order) n && awaits_at states n) || ((number == n) && awaits_again state)) ≡ (has_number (take (i + 1) order) n && awaits_at states n)
one_more order states i number n state less is at =
    let grown : has_number (take (i + 1) order) n ≡ (has_number (take i order) n || (number == n)) =
    ap (λ xs. has_number xs n) (take_more order i 0 less) ∙ has_append (take i order) (get_or order i 0 ∷ []) n
    ∙ ap (λ b. has_number (take i order) n || b) (or_false (get_or order i 0 == n) ∙ ap (λ k. k == n) (sym is)) in
    both (has_number (take i order) n) (number == n) (awaits_at states n) (awaits_again state)
    (λ e. let same : number ≡ n = grind (arith, nat_tests, e) in ap awaits_again at ∙ ap (awaits_at states) same)
    ∙ ap (λ b. b && awaits_at states n) (sym grown)
