-- What holds of each form of reply and of written registers holds of every action of PEI: the one list of its actions.
use Rattle.std.proofs.Common.{◌≡◌, ℕ, zero, suc, ◌^◌, Bool, true, false, cond, List, [], ◌∷◌, Option, Some, None, refl, Ok, Err, ◌==◌, ◌&&◌, not, nat_lt, slice_set, option_and_then}
use Rattle.std.specs.Prelude.{⊤}
use Rattle.pi_base.specs.{declared.word.Word.Word, declared.word.Word.TheVariants.InvalidParameter, declared.word.Word.TheVariants.NotFound}
use Rattle.hob_codec.specs.HobReading.{hob_of}
use Rattle.act_code.specs.declared.action.Action.{Action}
use Rattle.act_code.specs.declared.action.Action.TheVariants as A
use Rattle.store_model.specs.{declared.store_handle.Pool.Pool, declared.store_handle.Sweep.Sweep}
use Rattle.store_model.specs.{declared.store_handle.StoreFault.StoreFault, MemoryReading.bytes_at, StoreState.StoreState, Service.Service}
use Rattle.store_model.specs.declared.store_handle.StoreFault.TheVariants as F
use Rattle.store_model.specs.{Service.Descriptor.desc, Service.Descriptor.offsets, Service.Hob.create_hob}
use Rattle.store_model.specs.{Service.Install.install, Service.Install.reinstall, Service.Memory.pages, Service.Memory.set_memory}
use Rattle.store_model.specs.{Service.Notify.notify, Service.Pool.pool, Service.Pool.store, Service.Reading.nth_ppi}
use Rattle.boot_model.specs.{declared.frame.Register.Register, declared.frame.Register.TheVariants.Number, declared.line.Extra.Extra}
use Rattle.boot_model.specs.declared.line.Extra.TheVariants as X
use Rattle.boot_model.specs.{Effect.Effect as OfEach, PeiMachine.Frame}
use Rattle.boot_model.specs.Registers.{both, descriptor_in, descriptors_in, is_success, number_in, pool_in}
use Rattle.boot_model.specs.PeiAction.{Reply, PeiOwn, Wrote, Called, Logged, Skipped, Returned, Own, effect, refusal, told, status_of, answer_reply, sweep_reply, reply_where, peek_reply, desc_argument, desc_reply, kind_number, install_reply, reinstall_reply, notify_reply, locate_reply, hob_reply, memory_reply, is_memory_type, set_mode_reply, mode_reply, number_written, store_reply}
use Rattle.boot_laws.specs.EffectForms.{EffectHas, WritesHave, RepliesHave}

-- a property of replies that has a premise, where the premise holds
pub given : {R O G : Type 0} (P : R → Type 0) (Q : List Register → Type 0) (does : OfEach R O) → G → EffectHas (λ reply. G → P reply) (λ registers. G → Q registers) does → EffectHas P Q does
given P Q (Wrote registers status) is h = h is
given P Q (Called name reply) is h = h is
given P Q (Logged text) is h = tt
given P Q (Skipped n) is h = tt
given P Q (Returned status) is h = tt
given P Q (Own own) is h = tt

-- a register becomes a number, where there is one
pub number_has : {R : Type 0} (O : Type 0) (P : R → Type 0) (Q : List Register → Type 0) (registers : List Register) (r : ℕ) (n : Option ℕ) → Q registers → ((m : ℕ) → n ≡ Some m → Q (slice_set registers r (Number m)))
    → EffectHas {R = R} {O = O} P Q (number_written registers r n)
number_has O P Q registers r None same h = same
number_has O P Q registers r (Some n) same h = h n refl

-- registers of which nothing is asked
pub any_writes : (s : StoreState) (frame : Frame) → WritesHave s frame (λ action registers. ⊤)
any_writes s frame = record { same = λ action. tt; set = λ r n. tt; add = λ r n sum e. tt; addr = λ v x offset address e. tt }

-- each refusal of P has another status than Success
abbrev Refused : (Reply → Type 0) → StoreState → List Register → Type 0
Refused P s registers = (status : Word) → is_success status ≡ false → P (refusal s registers status)

fault_refuses : (fault : StoreFault) → is_success (status_of fault) ≡ false
fault_refuses F.Full = refl
fault_refuses F.Bad = refl
fault_refuses F.Missing = refl
fault_refuses F.NotYet = refl
fault_refuses F.Memory = refl

answered : {B : Type 0} (P : Reply → Type 0) (service : Service B) (write : B → List Register) (extra : B → Extra) (s : StoreState) (registers : List Register) → Refused P s registers
    → ((answer : B) (new : StoreState) → service ≡ Ok (answer, new) → P (told new (write answer) (extra answer))) → P (answer_reply service write extra s registers)
answered P (Ok (answer, new)) write extra s registers refused h = h answer new refl
answered P (Err fault) write extra s registers refused h = refused (status_of fault) (fault_refuses fault)

swept : (P : Reply → Type 0) (service : Service Sweep) (installs : List ℕ) (s : StoreState) (registers : List Register) → Refused P s registers
    → ((sweep : Sweep) (new : StoreState) → service ≡ Ok (sweep, new) → P (sweep_reply (Ok (sweep, new)) installs s registers)) → P (sweep_reply service installs s registers)
swept P (Ok (sweep, new)) installs s registers refused h = h sweep new refl
swept P (Err fault) installs s registers refused h = refused (status_of fault) (fault_refuses fault)

-- with an argument, or without one
argued : {B : Type 0} (P : Reply → Type 0) (argument : Option B) (reply : B → Reply) (s : StoreState) (registers : List Register) (status : Word) → P (refusal s registers status)
    → ((b : B) → argument ≡ Some b → P (reply b)) → P (reply_where argument reply s registers status)
argued P None reply s registers status refused h = refused
argued P (Some b) reply s registers status refused h = h b refl

either : (P : Reply → Type 0) (b : Bool) (one other : Reply) → (b ≡ true → P one) → P other → P (cond b one other)
either P true one other h k = h refl
either P false one other h k = k

stored : (P : Reply → Type 0) (s : StoreState) (frame : Frame) (held : Option Pool) (at : ℕ) (bytes : List ℕ) → P (refusal s frame.registers InvalidParameter)
    → ((to : Pool) (new : StoreState) → held ≡ Some to → store s to at bytes ≡ Some new → P (told new frame.registers X.Nothing)) → P (store_reply s frame (option_and_then (λ to. store s to at bytes) held))
stored P s frame None at bytes refused h = refused
stored P s frame (Some to) at bytes refused h = argued P (store s to at bytes) _ s frame.registers InvalidParameter refused (λ new e. h to new refl e)

moded : (s : StoreState) (frame : Frame) (P : Action → Reply → Type 0) → RepliesHave s frame P → (form r : ℕ) → P (A.BootMode form r) (mode_reply s frame form r)
moded s frame P has zero r = has.mode r
moded s frame P has (suc form) r =
    let none = has.refused (A.BootMode (suc form) r) InvalidParameter refl in
    argued (P (A.BootMode (suc form) r)) (number_in frame.registers r) (set_mode_reply s frame) s frame.registers InvalidParameter none
    (λ mode e. either (P (A.BootMode (suc form) r)) (nat_lt mode (2 ^ 32)) _ _ (has.set_mode form r mode) none)

pub effect_has : (s : StoreState) (frame : Frame) (P : Action → Reply → Type 0) (Q : Action → List Register → Type 0) → WritesHave s frame Q → RepliesHave s frame P → (action : Action)
    → EffectHas (P action) (Q action) (effect s frame action)
effect_has s frame P Q writes has (A.Set r n) = writes.set r n
effect_has s frame P Q writes has (A.Add r n) = number_has PeiOwn (P (A.Add r n)) (Q (A.Add r n)) frame.registers r _ (writes.same (A.Add r n)) (writes.add r n)
effect_has s frame P Q writes has (A.Addr v x offset) = number_has PeiOwn (P (A.Addr v x offset)) (Q (A.Addr v x offset)) frame.registers v _ (writes.same (A.Addr v x offset)) (writes.addr v x offset)
effect_has s frame P Q writes has (A.Pool r size) = answered (P (A.Pool r size)) (pool s size) _ _ s frame.registers (has.refused (A.Pool r size)) (has.pool r size)
effect_has s frame P Q writes has (A.Store p offset bytes) =
    let own : Action = A.Store p offset bytes in stored (P own) s frame (pool_in frame.registers p) offset bytes (has.refused own InvalidParameter refl) (has.store p offset bytes)
effect_has s frame P Q writes has (A.Peek v n) =
    let own : Action = A.Peek v n in
    argued (P own) (number_in frame.registers v) (peek_reply s frame n) s frame.registers InvalidParameter (has.refused own InvalidParameter refl)
    (λ at _. argued (P own) (bytes_at s at n) _ s frame.registers NotFound (has.refused own NotFound refl) (λ bytes _. has.peek v n bytes))
effect_has s frame P Q writes has (A.Desc d kind guid arg) =
    let own : Action = A.Desc d kind guid arg in
    argued (P own) (desc_argument frame (kind_number kind) guid arg) (desc_reply s frame d (kind_number kind)) s frame.registers InvalidParameter (has.refused own InvalidParameter refl)
    (λ of e. answered (P own) (desc s (kind_number kind) of.0 of.1) _ _ s frame.registers (has.refused own) (λ made new f. has.desc d kind guid arg of made new e f))
effect_has s frame P Q writes has (A.Install list) =
    let own : Action = A.Install list in
    argued (P own) (descriptors_in frame.registers list) (install_reply s frame) s frame.registers InvalidParameter (has.refused own InvalidParameter refl)
    (λ found e. swept (P own) (install s found frame.module_number) (offsets found) s frame.registers (has.refused own) (λ sweep new f. has.install list found sweep new e f))
effect_has s frame P Q writes has (A.Reinstall old new) =
    let own : Action = A.Reinstall old new in
    argued (P own) (both (descriptor_in frame.registers old) (descriptor_in frame.registers new)) (reinstall_reply s frame) s frame.registers InvalidParameter (has.refused own InvalidParameter refl)
    (λ pair e. swept (P own) (reinstall s pair.0 pair.1 frame.module_number) (pair.1.offset ∷ []) s frame.registers (has.refused own) (λ sweep after f. has.reinstall old new pair sweep after e f))
effect_has s frame P Q writes has (A.Notify list) =
    let own : Action = A.Notify list in
    argued (P own) (descriptors_in frame.registers list) (notify_reply s frame) s frame.registers InvalidParameter (has.refused own InvalidParameter refl)
    (λ found e. swept (P own) (notify s found frame.module_number) [] s frame.registers (has.refused own) (λ sweep new f. has.notify list found sweep new e f))
effect_has s frame P Q writes has (A.Locate d v guid instance) =
    let own : Action = A.Locate d v guid instance in
    argued (P own) (nth_ppi s guid instance) (locate_reply s frame d v) s frame.registers NotFound (has.refused own NotFound refl) (has.locate d v guid instance)
effect_has s frame P Q writes has (A.Hob kind body) =
    let own : Action = A.Hob kind body in
    argued (P own) (hob_of kind body) (hob_reply s frame) s frame.registers InvalidParameter (has.refused own InvalidParameter refl)
    (λ hob e. answered (P own) (create_hob s hob) _ _ s frame.registers (has.refused own) (λ address new f. has.hob kind body hob address new e f))
effect_has s frame P Q writes has (A.Memory begin len) =
    let own : Action = A.Memory begin len in
    argued (P own) (both (number_in frame.registers begin) (number_in frame.registers len)) (memory_reply s frame) s frame.registers InvalidParameter (has.refused own InvalidParameter refl)
    (λ span e. answered (P own) (set_memory s span.0 span.1) _ _ s frame.registers (has.refused own) (λ done new f. has.memory begin len span done new e f))
effect_has s frame P Q writes has (A.Pages r memory_type count) =
    let own : Action = A.Pages r memory_type count in
    either (P own) (is_memory_type memory_type && not (count == 0)) _ _
    (λ _. answered (P own) (pages s memory_type count) _ _ s frame.registers (has.refused own) (has.pages r memory_type count)) (has.refused own InvalidParameter refl)
effect_has s frame P Q writes has (A.BootMode form r) = moded s frame P has form r
effect_has s frame P Q writes has _ = tt
