-- A choice that names the part whose turn it is leads to no other.
use Rattle.std.proofs.Common.{◌≡◌, ℕ, Bool, true, false, ◌&&◌, Option, Some, None, refl, sym, ap, ◌∙◌, subst, ◌==◌}
use Rattle.std.proofs.lemmas.Bool.Decides.{Decides-eqb}
use Rattle.std.specs.Option.{option_or}
use Rattle.mod_catalog.specs.{declared.catalogue.Catalog.Catalog, Parts.has_number}
use Rattle.boot_model.specs.{DxeChoice.is_that, Eligible.is_eligible, FreeRun.MayStart, PeiMachine.PeiMachine}
use Rattle.boot_model.specs.PeiChoice.{next_peim, pei_order}
use Rattle.boot_laws.specs.PeiAim.{CursorAims, with_cursor}
use Rattle.pei_dispatch.specs.Choices.{IsDue, IsPlaceFor}
use Rattle.pei_dispatch.specs.InTurn.{in_turn, next_again, walked}
use Rattle.pei_dispatch.proofs.Choosing.{found_passes}

both_hold : (a b : Bool) → (a && b) ≡ true → b ≡ true
both_hold true b e = e
both_hold false b e = absurd (cc)

none_behind : (a b : Option ℕ) → option_or a b ≡ None → b ≡ None
none_behind None b e = e
none_behind (Some x) b e = absurd (cc)

one_number : (a b : ℕ) → Some a ≡ Some b → a ≡ b
one_number a b e = cc

-- the part whose turn it is may start
turn_may_start : CursorAims → (catalog : Catalog) (m : PeiMachine) (number : ℕ) → in_turn catalog m ≡ Some number → MayStart catalog m number
turn_may_start aims catalog m number is = by (next_again catalog m) refl
  where
    place : ℕ
    place = walked (pei_order catalog m.reported) m.started

    by : (o : Option ℕ) → next_again catalog m ≡ o → MayStart catalog m number
    by None none = (aims catalog m place).chosen number (sym (ap (λ o. option_or o (next_peim catalog (with_cursor m place))) none) ∙ is)
    by (Some again) some =
        let same : Some again ≡ Some number = sym (ap (λ o. option_or o (next_peim catalog (with_cursor m place))) some) ∙ is in
        let one = found_passes (λ n. has_number m.started n && is_eligible catalog m n) (pei_order catalog m.reported) number (some ∙ same) in
        (one.1, both_hold (has_number m.started number) (is_eligible catalog m number) one.0)

-- where it is nobody's turn no part may start
none_in_turn : CursorAims → (catalog : Catalog) (m : PeiMachine) (cursor : ℕ) → in_turn catalog m ≡ None → next_peim catalog (with_cursor m cursor) ≡ None
none_in_turn aims catalog m cursor is =
    let place = walked (pei_order catalog m.reported) m.started in
    (aims catalog m cursor).none.1 ((aims catalog m place).none.0 (none_behind (next_again catalog m) (next_peim catalog (with_cursor m place)) is))

-- the part that is due is that whose turn it is
pub due_in_turn : CursorAims → (Names : PeiMachine → Option ℕ → Type 0) (catalog : Catalog) → ((m : PeiMachine) (named : Option ℕ) → Names m named → named ≡ in_turn catalog m) → (m : PeiMachine) (number : ℕ)
    → IsDue Names catalog m number → is_that number (in_turn catalog m) ≡ true
due_in_turn aims Names catalog of m number due = by (in_turn catalog m) refl
  where
    by : (o : Option ℕ) → in_turn catalog m ≡ o → is_that number (in_turn catalog m) ≡ true
    by None none = let gone : None ≡ Some number = sym (none_in_turn aims catalog m due.cursor none) ∙ due.next in absurd (cc)
    by (Some turn) is =
        let may = turn_may_start aims catalog m turn is in
        let place : IsPlaceFor (pei_order catalog m.reported) m.cursor (Some turn) due.cursor = subst (λ o. IsPlaceFor (pei_order catalog m.reported) m.cursor o due.cursor) (of m due.named due.allowed ∙ is) due.place in
        let next = (aims catalog m due.cursor).aimed turn (place.0 may.0) may.1 in
        let same : turn ≡ number = one_number turn number (sym next ∙ due.next) in
        ap (is_that number) is ∙ (Decides-eqb turn number).1 same
