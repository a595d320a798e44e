-- A call for pages of a type that is known, and of some pages, is answered by the service.
use Rattle.std.proofs.Common.{◌≡◌, ℕ, ◌==◌, ◌&&◌, true, ap, not, if◌then◌else◌, slice_set}
use Rattle.pi_base.specs.declared.word.Word.TheVariants.{InvalidParameter}
use Rattle.boot_model.specs.{PeiMachine.Frame, declared.frame.Register.TheVariants.Number}
use Rattle.boot_model.specs.declared.line.CallName.TheVariants as C
use Rattle.boot_model.specs.declared.line.Extra.TheVariants as X
use Rattle.store_model.specs.{StoreState.StoreState, Service.Service, Service.Memory.pages}
use Rattle.boot_model.specs.PeiAction.{Effect, Reply, Called, answer_reply, pages_reply, is_memory_type, refusal}

abbrev pub answered : StoreState → Frame → ℕ → Service ℕ → Reply
answered s frame r service = answer_reply service (λ address. slice_set frame.registers r (Number address)) (λ address. X.Number address) s frame.registers

abbrev called : Reply → Effect
called reply = Called C.Pages reply

pub some_pages : (s : StoreState) (frame : Frame) (r memory_type count : ℕ) → (is_memory_type memory_type && not (count == 0)) ≡ true
    → called (pages_reply s frame r memory_type count) ≡ called (answered s frame r (pages s memory_type count))
some_pages s frame r memory_type count e =
    ap (λ b. called (if b then answered s frame r (pages s memory_type count) else refusal s frame.registers InvalidParameter)) e
