-- The forms of what an action of PEI does. What holds of each refusal, of the reply of each service that succeeds, and of each register that is written
-- holds of every action: `effect_has`.
-- Own.
use Rattle.std.specs.Prelude.{◌≡◌, ℕ, suc, ◌+◌, ◌%◌, ◌^◌, true, false, List, [], ◌∷◌, Some, option_map, nat_lt, slice_set, Ok, ⊤}
use Rattle.pi_base.specs.{declared.guid.Guid.Guid, declared.word.Word.Word}
use Rattle.hob_codec.specs.{HobValue.HobValue, HobReading.hob_of}
use Rattle.act_code.specs.{declared.action.Action.Action, declared.action.GuidArg.GuidArg}
use Rattle.act_code.specs.declared.action.Action.TheVariants as A
use Rattle.store_model.specs.{declared.store_handle.Desc.Desc, declared.store_handle.GuidFrom.GuidFrom, declared.store_handle.Pool.Pool}
use Rattle.store_model.specs.{declared.store_handle.Sweep.Sweep, StoreState.StoreState, Service.Descriptor.desc, Service.Descriptor.offsets}
use Rattle.store_model.specs.{Service.Hob.create_hob, Service.Install.install, Service.Install.reinstall, Service.Notify.notify}
use Rattle.store_model.specs.Service.Memory.{pages, set_memory, with_boot_mode}
use Rattle.store_model.specs.{Service.Pool.pool, Service.Pool.store, Service.Reading.nth_ppi}
use Rattle.boot_model.specs.{declared.frame.Register.Register, Effect.Effect as OfEach, PeiMachine.Frame}
use Rattle.boot_model.specs.declared.frame.Register.TheVariants.{Number, PoolIn, DescriptorIn}
use Rattle.boot_model.specs.declared.line.Extra.TheVariants as X
use Rattle.boot_model.specs.Registers.{both, descriptor_in, descriptors_in, is_success, number_in, offset_of, pool_in, register}
use Rattle.boot_model.specs.PeiAction.{Reply, Wrote, Called, Logged, Skipped, Returned, Own, refusal, told, sweep_reply, locate_reply, mode_reply, desc_argument, kind_number}

-- an effect that is a call has this of its reply, and one that writes has that of the registers
abbrev pub EffectHas : {R O : Type 0} → (R → Type 0) → (List Register → Type 0) → OfEach R O → Type 0
EffectHas P Q (Wrote registers status) = Q registers
EffectHas P Q (Called name reply) = P reply
EffectHas P Q (Logged text) = ⊤
EffectHas P Q (Skipped n) = ⊤
EffectHas P Q (Returned status) = ⊤
EffectHas P Q (Own own) = ⊤

-- of the registers after each action of PEI that writes one and calls nothing
pub record WritesHave (s : StoreState) (frame : Frame) (Q : Action → List Register → Type 0) : Type 0 where
  pub same : (action : Action) → Q action frame.registers
  pub set : (r n : ℕ) → Q (A.Set r n) (slice_set frame.registers r (Number n))
  pub add : (r n sum : ℕ) → option_map (λ old. (old + n) % 2 ^ 64) (number_in frame.registers r) ≡ Some sum
      → Q (A.Add r n) (slice_set frame.registers r (Number sum))
  pub addr : (v x offset address : ℕ)
      → option_map (λ place. s.base + place + offset) (offset_of (register frame.registers x)) ≡ Some address
      → Q (A.Addr v x offset) (slice_set frame.registers v (Number address))

-- of each reply to an action of PEI: a refusal, or a service that succeeds
pub record RepliesHave (s : StoreState) (frame : Frame) (P : Action → Reply → Type 0) : Type 0 where
  pub refused : (action : Action) (status : Word) → is_success status ≡ false → P action (refusal s frame.registers status)
  pub pool : (r size : ℕ) (made : Pool) (new : StoreState) → pool s size ≡ Ok (made, new)
      → P (A.Pool r size) (told new (slice_set frame.registers r (PoolIn made)) (X.Number (s.base + made.offset)))
  pub store : (p offset : ℕ) (bytes : List ℕ) (to : Pool) (new : StoreState) → pool_in frame.registers p ≡ Some to
      → store s to offset bytes ≡ Some new
      → P (A.Store p offset bytes) (told new frame.registers X.Nothing)
  pub peek : (v n : ℕ) (bytes : List ℕ) → P (A.Peek v n) (told s frame.registers (X.Bytes (record { items = bytes })))
  pub desc : (d kind : ℕ) (guid : GuidArg) (arg : ℕ) (of : GuidFrom × ℕ) (made : Desc) (new : StoreState)
      → desc_argument frame (kind_number kind) guid arg ≡ Some of → desc s (kind_number kind) of.0 of.1 ≡ Ok (made, new)
      → P (A.Desc d kind guid arg) (told new (slice_set frame.registers d (DescriptorIn made)) (X.Number (s.base + made.offset)))
  pub install : (list : List ℕ) (found : List Desc) (sweep : Sweep) (new : StoreState)
      → descriptors_in frame.registers list ≡ Some found → install s found frame.module_number ≡ Ok (sweep, new)
      → P (A.Install list) (sweep_reply (Ok (sweep, new)) (offsets found) s frame.registers)
  pub reinstall : (old new : ℕ) (pair : Desc × Desc) (sweep : Sweep) (after : StoreState)
      → both (descriptor_in frame.registers old) (descriptor_in frame.registers new) ≡ Some pair
      → reinstall s pair.0 pair.1 frame.module_number ≡ Ok (sweep, after)
      → P (A.Reinstall old new) (sweep_reply (Ok (sweep, after)) (pair.1.offset ∷ []) s frame.registers)
  pub notify : (list : List ℕ) (found : List Desc) (sweep : Sweep) (new : StoreState) → descriptors_in frame.registers list ≡ Some found
      → notify s found frame.module_number ≡ Ok (sweep, new)
      → P (A.Notify list) (sweep_reply (Ok (sweep, new)) [] s frame.registers)
  pub locate : (d v : ℕ) (guid : Guid) (instance : ℕ) (found : Desc × ℕ) → nth_ppi s guid instance ≡ Some found
      → P (A.Locate d v guid instance) (locate_reply s frame d v found)
  pub hob : (kind : ℕ) (body : List ℕ) (hob : HobValue) (address : ℕ) (new : StoreState) → hob_of kind body ≡ Some hob
      → create_hob s hob ≡ Ok (address, new)
      → P (A.Hob kind body) (told new frame.registers (X.Number address))
  pub memory : (begin len : ℕ) (span : ℕ × ℕ) (done : Unit {0}) (new : StoreState)
      → both (number_in frame.registers begin) (number_in frame.registers len) ≡ Some span → set_memory s span.0 span.1 ≡ Ok (done, new)
      → P (A.Memory begin len) (told new frame.registers X.Nothing)
  pub pages : (r memory_type count address : ℕ) (new : StoreState) → pages s memory_type count ≡ Ok (address, new)
      → P (A.Pages r memory_type count) (told new (slice_set frame.registers r (Number address)) (X.Number address))
  pub mode : (r : ℕ) → P (A.BootMode 0 r) (mode_reply s frame 0 r)
  pub set_mode : (form r mode : ℕ) → nat_lt mode (2 ^ 32) ≡ true
      → P (A.BootMode (suc form) r) (told (with_boot_mode s mode) frame.registers X.Nothing)
