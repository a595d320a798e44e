-- What an action of a PEI script does: it writes registers, calls a service, logs, skips or returns. The service's answer becomes a status, what its line shows, and registers; a refusal changes nothing.
-- PI 1.8, volume 1, "PEI Services"; the actions and their operands are own.
use Rattle.std.specs.Prelude.{ℕ, zero, suc, ◌+◌, ◌*◌, ◌^◌, Bool, ◌==◌, ◌||◌, ◌&&◌, not, if◌then◌else◌, nat_le, nat_lt, List, [], ◌∷◌, Option, Some, None, option_map, slice_set, Ok, Err, option_and_then}
use Rattle.pi_base.specs.declared.word.Word.{Word}
use Rattle.pi_base.specs.declared.word.Word.TheVariants.{Success, InvalidParameter, NotFound, OutOfResources, NotAvailableYet}
use Rattle.hob_codec.specs.{HobValue.HobValue, HobReading.hob_of}
use Rattle.act_code.specs.{declared.action.Action.Action, declared.action.GuidArg.GuidArg}
use Rattle.act_code.specs.declared.action.Action.TheVariants as A
use Rattle.act_code.specs.declared.action.GuidArg.TheVariants as G
use Rattle.boot_model.specs.{declared.frame.TheConstants.BLOCKS, declared.line.CallName.CallName, declared.line.Extra.Extra}
use Rattle.boot_model.specs.declared.line.CallName.TheVariants as C
use Rattle.boot_model.specs.declared.line.Extra.TheVariants as X
use Rattle.store_model.specs.{declared.store_handle.DescKind.DescKind, declared.store_handle.Desc.Desc, declared.store_handle.Sweep.Sweep}
use Rattle.store_model.specs.declared.store_handle.DescKind.TheVariants.{Ppi, Callback, Dispatch}
use Rattle.store_model.specs.declared.store_handle.GuidFrom.{GuidFrom}
use Rattle.store_model.specs.declared.store_handle.GuidFrom.TheVariants.{Inline, At}
use Rattle.store_model.specs.{declared.store_handle.StoreFault.StoreFault, StoreState.StoreState, MemoryReading.bytes_at, Service.Service}
use Rattle.store_model.specs.declared.store_handle.StoreFault.TheVariants as F
use Rattle.store_model.specs.{Service.Pool.pool, Service.Pool.store, Service.Descriptor.desc, Service.Descriptor.offsets}
use Rattle.store_model.specs.{Service.Install.install, Service.Install.reinstall, Service.Notify.notify, Service.Reading.nth_ppi}
use Rattle.store_model.specs.Service.Hob.{create_hob}
use Rattle.store_model.specs.Service.Memory.{set_memory, pages, with_boot_mode}
use Rattle.boot_model.specs.Effect.{Effect as OfEach, effect_by}
pub use Rattle.boot_model.specs.Effect.{Wrote, Called, Logged, Skipped, Returned, Own, number_written}
use Rattle.boot_model.specs.PeiMachine.{Register, Number, PoolIn, DescriptorIn, Frame}
use Rattle.boot_model.specs.Registers.{number_in, pool_in, descriptor_in, offset_of, register, both, descriptors_in}

-- what a service answered a script: its status, what its line shows, the state and the registers after it, the callbacks to visit, and the PPIs to look at for volumes, by their descriptors' places
pub record Reply : Type 0 where
  pub status : Word
  pub extra : Extra
  pub store : StoreState
  pub registers : List Register
  pub sweep : Option Sweep
  pub installs : List ℕ

-- an action of PEI alone that is no call of the store
pub data PeiOwn : Type 0 where
  Shadowed : PeiOwn

-- what an action of PEI does
abbrev pub Effect : Type 0
Effect = OfEach Reply PeiOwn

-- the status that a refused service is to its script
abbrev pub status_of : StoreFault → Word
status_of F.Full = OutOfResources
status_of F.Bad = InvalidParameter
status_of F.Missing = NotFound
status_of F.NotYet = NotAvailableYet
status_of F.Memory = OutOfResources

-- a reply that changes nothing but registers
abbrev pub told : StoreState → List Register → Extra → Reply
told s registers extra = record { status = Success; extra = extra; store = s; registers = registers; sweep = None; installs = [] }

-- a refusal, which changes nothing
abbrev pub refusal : StoreState → List Register → Word → Reply
refusal s registers status = record { status = status; extra = X.Nothing; store = s; registers = registers; sweep = None; installs = [] }

-- the reply of a service whose answer goes into registers and is shown
abbrev pub answer_reply : {A : Type 0} → Service A → (A → List Register) → (A → Extra) → StoreState → List Register → Reply
answer_reply (Ok (answer, new)) write extra s registers = told new (write answer) (extra answer)
answer_reply (Err fault) write extra s registers = refusal s registers (status_of fault)

-- the reply of a service that answers a sweep, by which these PPIs are installed
abbrev pub sweep_reply : Service Sweep → List ℕ → StoreState → List Register → Reply
sweep_reply (Ok (sweep, new)) installs s registers = record (told new registers X.Nothing) { sweep = Some sweep; installs = installs }
sweep_reply (Err fault) installs s registers = refusal s registers (status_of fault)

-- the reply that an argument has, if the registers hold one
abbrev pub reply_where : {A : Type 0} → Option A → (A → Reply) → StoreState → List Register → Word → Reply
reply_where None reply s registers status = refusal s registers status
reply_where (Some argument) reply s registers status = reply argument

-- `AllocatePool()`: the register holds the pool, and the address of its body is shown
abbrev pub pool_reply : StoreState → Frame → ℕ → ℕ → Reply
pool_reply s frame r size =
    answer_reply (pool s size) (λ made. slice_set frame.registers r (PoolIn made)) (λ made. X.Number (s.base + made.offset)) s frame.registers

-- a write into a pool, if the pool has so many bytes
abbrev pub store_reply : StoreState → Frame → Option StoreState → Reply
store_reply s frame new = reply_where new (λ after. told after frame.registers X.Nothing) s frame.registers InvalidParameter

-- a read of memory: the bytes at an address, if one region has all of them
abbrev pub peek_reply : StoreState → Frame → ℕ → ℕ → Reply
peek_reply s frame n at = reply_where (bytes_at s at n) (λ bytes. told s frame.registers (X.Bytes (record { items = bytes }))) s frame.registers NotFound

-- the kind of a descriptor by its number in a script
abbrev pub kind_number : ℕ → DescKind
kind_number zero = Ppi
kind_number (suc zero) = Callback
kind_number (suc (suc n)) = Dispatch

-- where the GUID of a descriptor comes from, if the register of its address holds a number
abbrev pub guid_arg : List Register → GuidArg → Option GuidFrom
guid_arg registers (G.Inline guid) = Some (Inline guid)
guid_arg registers (G.Register v) = option_map (λ address. At address) (number_in registers v)

-- a PPI's value, or the entry of a notification
abbrev pub desc_number : ℕ → List Register → DescKind → ℕ → Option ℕ
desc_number number registers Ppi arg = number_in registers arg
desc_number number registers Callback arg = Some (number * BLOCKS + arg)
desc_number number registers Dispatch arg = Some (number * BLOCKS + arg)

-- a descriptor is made: the register holds it, and its address is shown
abbrev pub desc_reply : StoreState → Frame → ℕ → DescKind → (GuidFrom × ℕ) → Reply
desc_reply s frame d kind argument =
    answer_reply (desc s kind argument.0 argument.1) (λ made. slice_set frame.registers d (DescriptorIn made)) (λ made. X.Number (s.base + made.offset)) s frame.registers

-- the parts of a descriptor: its GUID and its number
abbrev pub desc_argument : Frame → DescKind → GuidArg → ℕ → Option (GuidFrom × ℕ)
desc_argument frame kind guid arg = both (guid_arg frame.registers guid) (desc_number frame.module_number frame.registers kind arg)

-- `InstallPpi()`: the callbacks are visited, and the PPIs may report volumes
abbrev pub install_reply : StoreState → Frame → List Desc → Reply
install_reply s frame list = sweep_reply (install s list frame.module_number) (offsets list) s frame.registers

-- `ReInstallPpi()`: the same of the new descriptor
abbrev pub reinstall_reply : StoreState → Frame → (Desc × Desc) → Reply
reinstall_reply s frame pair = sweep_reply (reinstall s pair.0 pair.1 frame.module_number) (pair.1.offset ∷ []) s frame.registers

-- `NotifyPpi()`: the new callbacks are visited with the PPIs that are there
abbrev pub notify_reply : StoreState → Frame → List Desc → Reply
notify_reply s frame list = sweep_reply (notify s list frame.module_number) [] s frame.registers

-- `LocatePpi()`: the descriptor is written first, then the value, which is shown
abbrev pub locate_reply : StoreState → Frame → ℕ → ℕ → (Desc × ℕ) → Reply
locate_reply s frame d v found = told s (slice_set (slice_set frame.registers d (DescriptorIn found.0)) v (Number found.1)) (X.Number found.1)

-- `CreateHob()`: the address of the HOB is shown
abbrev pub hob_reply : StoreState → Frame → HobValue → Reply
hob_reply s frame hob = answer_reply (create_hob s hob) (λ _. frame.registers) (λ address. X.Number address) s frame.registers

-- `InstallPeiMemory()` with this beginning and length
abbrev pub memory_reply : StoreState → Frame → (ℕ × ℕ) → Reply
memory_reply s frame span = answer_reply (set_memory s span.0 span.1) (λ _. frame.registers) (λ _. X.Nothing) s frame.registers

-- the types of memory that pages may be of (PI 1.8, volume 1, `AllocatePages()`)
abbrev pub is_memory_type : ℕ → Bool
is_memory_type memory_type = nat_le memory_type 6 || memory_type == 9 || memory_type == 10

-- `AllocatePages()`: the register holds the address of the lowest page, which is shown
abbrev pub pages_reply : StoreState → Frame → ℕ → ℕ → ℕ → Reply
pages_reply s frame r memory_type count =
    if is_memory_type memory_type && not (count == 0)
    then answer_reply (pages s memory_type count) (λ address. slice_set frame.registers r (Number address)) (λ address. X.Number address) s frame.registers
    else refusal s frame.registers InvalidParameter

-- `SetBootMode()`: a mode has 32 bits
abbrev pub set_mode_reply : StoreState → Frame → ℕ → Reply
set_mode_reply s frame mode = if nat_lt mode (2 ^ 32) then told (with_boot_mode s mode) frame.registers X.Nothing else refusal s frame.registers InvalidParameter

-- `GetBootMode()` in form 0, and `SetBootMode()` in form 1
abbrev pub mode_reply : StoreState → Frame → ℕ → ℕ → Reply
mode_reply s frame zero r = told s (slice_set frame.registers r (Number s.boot_mode)) (X.Number s.boot_mode)
mode_reply s frame (suc form) r = reply_where (number_in frame.registers r) (set_mode_reply s frame) s frame.registers InvalidParameter

-- a call whose arguments are in registers
abbrev pub call_where : {A : Type 0} → CallName → Option A → (A → Reply) → StoreState → Frame → Effect
call_where name argument reply s frame = Called name (reply_where argument reply s frame.registers InvalidParameter)

-- what an action of PEI's own does in a frame; an action of DXE is not part of a PEI script
abbrev pub own_effect : StoreState → Frame → Action → Effect
own_effect s frame (A.Addr v x offset) = number_written frame.registers v (option_map (λ place. s.base + place + offset) (offset_of (register frame.registers x)))
own_effect s frame (A.Pool r size) = Called C.Pool (pool_reply s frame r size)
own_effect s frame (A.Store p offset bytes) = Called C.Store (store_reply s frame (option_and_then (λ to. store s to offset bytes) (pool_in frame.registers p)))
own_effect s frame (A.Peek v n) = call_where C.Peek (number_in frame.registers v) (peek_reply s frame n) s frame
own_effect s frame (A.Desc d kind guid arg) = call_where C.Desc (desc_argument frame (kind_number kind) guid arg) (desc_reply s frame d (kind_number kind)) s frame
own_effect s frame (A.Install list) = call_where C.Install (descriptors_in frame.registers list) (install_reply s frame) s frame
own_effect s frame (A.Reinstall old new) = call_where C.Reinstall (both (descriptor_in frame.registers old) (descriptor_in frame.registers new)) (reinstall_reply s frame) s frame
own_effect s frame (A.Notify list) = call_where C.Notify (descriptors_in frame.registers list) (notify_reply s frame) s frame
own_effect s frame (A.Locate d v guid instance) = Called C.Locate (reply_where (nth_ppi s guid instance) (locate_reply s frame d v) s frame.registers NotFound)
own_effect s frame (A.Hob kind body) = call_where C.Hob (hob_of kind body) (hob_reply s frame) s frame
own_effect s frame (A.Memory begin length) = call_where C.Memory (both (number_in frame.registers begin) (number_in frame.registers length)) (memory_reply s frame) s frame
own_effect s frame (A.Pages r memory_type count) = Called C.Pages (pages_reply s frame r memory_type count)
own_effect s frame (A.BootMode form r) = Called C.BootMode (mode_reply s frame form r)
own_effect s frame A.Shadow = Own Shadowed
own_effect s frame _ = Skipped 0

-- what an action does in a frame, one of both phases or of PEI
abbrev pub effect : StoreState → Frame → Action → Effect
effect s frame action = effect_by (own_effect s frame) frame action
