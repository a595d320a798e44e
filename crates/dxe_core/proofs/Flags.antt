-- Flags tell which modules were requested.
use Rattle.std.proofs.Common.{◌≡◌, ◌++◌, ◌<◌, ◌==◌, ◌||◌, ℕ, zero, suc, Bool, true, false, List, [], ◌∷◌, length, refl, ap, sym, ◌∙◌, arith, replicate, slice_set, get_or-set_other}
use Rattle.std.proofs.{lemmas.Bool.Decides.nat_tests, lemmas.List.Folds.list_any-append, lemmas.Grind.get_or-set_at}
use Rattle.std.proofs.lemmas.Option.{unwrap_or-slice_get}
use Rattle.dxe_core.specs.Services.{AreFlags, flag_at}

pub flags_down : (count : ℕ) → AreFlags [] (replicate count false)
flags_down zero number = refl
flags_down (suc count) zero = refl
flags_down (suc count) (suc number) = flags_down count number

or_true : (a : Bool) → true ≡ (a || true)
or_true true = refl
or_true false = refl

or_false : (a : Bool) → a ≡ (a || false)
or_false true = refl
or_false false = refl

up_at : (b : Bool) (flags : List Bool) (n number : ℕ) → n < length flags → (n == number) ≡ b → flag_at (slice_set flags n true) number ≡ (flag_at flags number || (b || false))
up_at true flags n number within e =
    let same : number ≡ n = grind (arith, nat_tests, e) in
    unwrap_or-slice_get (slice_set flags n true) number false ∙ get_or-set_at flags n number true false same within ∙ or_true (flag_at flags number)
up_at false flags n number within e =
    let other : number ≡ n → ⊥ = λ same. grind (arith, nat_tests, e, same) in
    unwrap_or-slice_get (slice_set flags n true) number false ∙ get_or-set_other flags n number true false other ∙ sym (unwrap_or-slice_get flags number false) ∙ or_false (flag_at flags number)

pub flag_up : (numbers : List ℕ) (flags : List Bool) (n : ℕ) → n < length flags → AreFlags numbers flags → AreFlags (numbers ++ n ∷ []) (slice_set flags n true)
flag_up numbers flags n within are number =
    up_at (n == number) flags n number within refl
    ∙ ap (λ a. a || ((n == number) || false)) (are number)
    ∙ sym (list_any-append (λ other. other == number) numbers (n ∷ []))
