-- A volume that is processed, and bytes that are read.
use Rattle.std.proofs.Common.{◌≡◌, ℕ, List, Bool, false, true, refl, ap, sym, subst, ◌∙◌, ◌++◌, [], length, Option, Some, None, if◌then◌else◌}
use Rattle.pi_base.specs.{declared.guid.Guid.Guid, declared.word.Word.TheVariants.AlreadyStarted, declared.word.Word.TheVariants.NotFound}
use Rattle.act_code.specs.declared.action.Action.TheVariants as A
use Rattle.mod_catalog.specs.{declared.catalogue.Catalog.Catalog, Parts.has_number, Parts.volume_at}
use Rattle.store_model.specs.MemoryReading.{bytes_at}
use Rattle.boot_model.specs.declared.line.CallName.TheVariants as C
use Rattle.boot_model.specs.declared.line.Extra.TheVariants as X
use Rattle.boot_model.specs.{Registers.is_success, Registers.number_in, Reporting.newcomers, DxeMachine.DxeMachine, DxeMachine.DriverFrame}
use Rattle.boot_model.specs.DxeAction.{DxeEffect, Called, own_dxe_effect, dxe_call_where, dxe_refusal, dxe_told, dxe_where, peek_reply, process_reply, process_volume, processed, with_volumes}
use Rattle.dxe_core.specs.{Order.Drivers, Order.IsOrderOf, declared.reply.Reply.Reply, Event.EventLeaves, Event.discovers}
use Rattle.phase_parts.specs.declared.registers.Writes.TheVariants as W
use Rattle.phase_parts.specs.declared.reading.Answer.{Answer}
use Rattle.phase_parts.specs.Peeked.{peeked, told_at, told_bytes}
use Rattle.dxe_core.specs.Answered.{answered, did, refusal, told}
use Rattle.dxe_core.specs.{Reply.IsReply, Reply.reply_in, Services.Services, Services.AreServicesOf}
use Rattle.dxe_core.proofs.Replying.{none_more, refuses, unchanged}

processes : (catalog : Catalog) (m : DxeMachine) (frame : DriverFrame) (v base volume : ℕ) → number_in frame.registers v ≡ Some base → volume_at catalog base ≡ Some volume
    → own_dxe_effect catalog m frame (A.Process v) ≡ Called C.Process (process_volume catalog m frame volume)
processes catalog m frame v base volume number mapped =
    ap (λ n. dxe_call_where C.Process n (process_reply catalog m frame) m frame) number
    ∙ ap (λ found. Called C.Process (dxe_where found (process_volume catalog m frame) m frame NotFound)) mapped

-- no volume is mapped there
pub unmapped : (catalog : Catalog) (m : DxeMachine) (frame : DriverFrame) (v base : ℕ) (services : Services) (reply : Reply) → AreServicesOf catalog m services → Some base ≡ number_in frame.registers v → None ≡ volume_at catalog base
    → reply ≡ refusal C.Process NotFound → IsReply catalog m frame (A.Process v) reply services
unmapped catalog m frame v base services reply has number none is =
    refuses catalog m frame (A.Process v) reply services C.Process NotFound refl has is
    (ap (λ n. dxe_call_where C.Process n (process_reply catalog m frame) m frame) (sym number)
    ∙ ap (λ found. Called C.Process (dxe_where found (process_volume catalog m frame) m frame NotFound)) (sym none))

pub known_volume : (catalog : Catalog) (m : DxeMachine) (frame : DriverFrame) (v base volume : ℕ) (old : Services) (reply : Reply) → AreServicesOf catalog m old
    → number_in frame.registers v ≡ Some base → volume_at catalog base ≡ Some volume → has_number old.order.volumes volume ≡ true → reply ≡ refusal C.Process AlreadyStarted
    → IsReply catalog m frame (A.Process v) reply old
known_volume catalog m frame v base volume old reply has number mapped known is =
    refuses catalog m frame (A.Process v) reply old C.Process AlreadyStarted refl has is
    (processes catalog m frame v base volume number mapped
    ∙ ap (λ b. Called C.Process (if b then dxe_refusal m frame AlreadyStarted else processed catalog m frame (newcomers catalog m.discovered (Some volume))))
    (ap (λ volumes. has_number volumes volume) (sym has.order.volumes_are) ∙ known))

abbrev pub with_order : Services → Drivers → Services
with_order s order = record s { order = order }

pub new_volume : (catalog : Catalog) (m : DxeMachine) (frame : DriverFrame) (v base volume : ℕ) (old : Services) (order : Drivers) (count : ℕ) (reply : Reply) → AreServicesOf catalog m old
    → number_in frame.registers v ≡ Some base → volume_at catalog base ≡ Some volume → has_number old.order.volumes volume ≡ false
    → ((volumes : List ℕ) → IsOrderOf catalog volumes old.order → IsOrderOf catalog (volumes ++ newcomers catalog volumes (Some volume)) order)
    → ((volumes : List ℕ) → IsOrderOf catalog volumes old.order → count ≡ length (newcomers catalog volumes (Some volume)))
    → reply ≡ did (discovers count) (told C.Process X.Nothing W.Nothing) → IsReply catalog m frame (A.Process v) reply (with_order old order)
new_volume catalog m frame v base volume old order count reply has number mapped new added counted is =
    let volumes = newcomers catalog m.discovered (Some volume) in
    let here : EventLeaves catalog (discovers count) m (with_volumes catalog m volumes) = record { volumes = volumes; count = counted m.discovered has.order; discovered = refl; scheduled = refl; started = refl; requested = none_more m; in_order = tt } in
    let answered_so : IsReply catalog m frame (A.Process v) (did (discovers count) (told C.Process X.Nothing W.Nothing)) (with_order old order) = record {
      later = with_volumes catalog m volumes;
      left = here;
      changed = refl;
      does =
          processes catalog m frame v base volume number mapped
          ∙ ap (λ b. Called C.Process (if b then dxe_refusal m frame AlreadyStarted else processed catalog m frame (newcomers catalog m.discovered (Some volume))))
          (ap (λ known. has_number known volume) (sym has.order.volumes_are) ∙ new);
      has = record { handles = has.handles; notes = has.notes; order = added m.discovered has.order; requested = has.requested };
      rest = record { store = refl; actions = refl; lines = refl; ended = refl };
    } in
    subst (λ r. IsReply catalog m frame (A.Process v) r (with_order old order)) (sym is) answered_so

-- bytes that are read
abbrev shown : DxeMachine → DriverFrame → Answer → DxeEffect
shown m frame answer = Called C.Peek (reply_in (answered C.Peek answer.status answer.extra W.Nothing) frame.registers m [])

abbrev peek_at : DxeMachine → DriverFrame → Option (List ℕ) → DxeEffect
peek_at m frame bytes = Called C.Peek (dxe_where bytes (λ read. dxe_told m frame.registers (X.Bytes (record { items = read }))) m frame NotFound)

bytes_shown : (m : DxeMachine) (frame : DriverFrame) (bytes : Option (List ℕ)) → peek_at m frame bytes ≡ shown m frame (told_bytes bytes)
bytes_shown m frame None = refl
bytes_shown m frame (Some bytes) = refl

peek_shown : (m : DxeMachine) (frame : DriverFrame) (n : ℕ) (at : Option ℕ) → dxe_call_where C.Peek at (peek_reply m frame n) m frame ≡ shown m frame (told_at m.store n at)
peek_shown m frame n None = refl
peek_shown m frame n (Some at) = bytes_shown m frame (bytes_at m.store at n)

neither : (b : Bool) (none : List Guid) → none ≡ (if b then none else none)
neither true none = refl
neither false none = refl

pub reads : (catalog : Catalog) (m : DxeMachine) (frame : DriverFrame) (v n : ℕ) (services : Services) (answer : Answer) (reply : Reply) → AreServicesOf catalog m services
    → answer ≡ peeked m.store frame.registers v n → reply ≡ answered C.Peek answer.status answer.extra W.Nothing → IsReply catalog m frame (A.Peek v n) reply services
reads catalog m frame v n services answer reply has read is =
    subst (λ r. IsReply catalog m frame (A.Peek v n) r services) (sym is)
    (unchanged catalog m frame (A.Peek v n) (answered C.Peek answer.status answer.extra W.Nothing) services has refl (neither (is_success answer.status) [])
    (peek_shown m frame n (number_in frame.registers v) ∙ ap (λ a. shown m frame a) (sym read)))
