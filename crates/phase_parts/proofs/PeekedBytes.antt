-- What is told of bytes that were read.
use Rattle.std.proofs.Common.{◌≡◌, ◌++◌, ℕ, List, Some, None, ap, sym, ◌∙◌, arith, take, length, append-nil, take_all}
use Rattle.std.specs.List.{refill}
use Rattle.std.proofs.lemmas.List.{drop_all}
use Rattle.pi_base.specs.declared.word.Word.TheVariants.{Success}
use Rattle.boot_model.specs.{declared.frame.Register.Register, Registers.number_in}
use Rattle.boot_model.specs.declared.line.Extra.TheVariants as X
use Rattle.store_model.specs.{StoreState.StoreState, MemoryReading.bytes_at}
use Rattle.phase_parts.specs.Peeked.{peeked, told_at, told_bytes}

-- a list that was written over from its begin to its end
pub refilled : {X : Type 0} (items list : List X) → length list ≡ length items → refill (length items) items list ≡ list
refilled items list same =
    ap (λ rest. take (length items) (list ++ rest)) (drop_all (length list) items (omega (arith, same))) ∙ ap (take (length items)) (append-nil list) ∙ take_all (length items) list (omega (arith, same))

pub told : (s : StoreState) (registers : List Register) (v n at : ℕ) (items old new : List ℕ) → Some at ≡ number_in registers v → old ≡ items → length items ≡ n → length new ≡ length old
    → bytes_at s at (length old) ≡ Some new → record { status = Success; extra = X.Bytes (record { items = refill (length items) items new }) } ≡ peeked s registers v n
told s registers v n at items old new here lent long same read =
    let len : length old ≡ n = ap length lent ∙ long in
    ap (λ (bytes : List ℕ). told_bytes (Some bytes)) (refilled items new (same ∙ ap length lent)) ∙ ap told_bytes (sym read) ∙ ap (λ k. told_bytes (bytes_at s at k)) len ∙ ap (told_at s n) here

pub not_told : (s : StoreState) (registers : List Register) (v n at : ℕ) (items old : List ℕ) → Some at ≡ number_in registers v → old ≡ items → length items ≡ n
    → bytes_at s at (length old) ≡ None → told_bytes None ≡ peeked s registers v n
not_told s registers v n at items old here lent long none =
    let len : length old ≡ n = ap length lent ∙ long in
    ap told_bytes (sym none) ∙ ap (λ k. told_bytes (bytes_at s at k)) len ∙ ap (told_at s n) here
