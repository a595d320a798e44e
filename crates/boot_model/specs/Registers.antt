-- What registers hold, and what an action asks of them. A register of the wrong kind is no answer.
-- Own; the profile of the action scripts.
use Rattle.std.specs.Prelude.{ℕ, ◌==◌, Bool, true, false, if◌then◌else◌, List, [], ◌∷◌, Option, Some, None, option_map, slice_get, unwrap_or}
use Rattle.pi_base.specs.declared.word.Word.{Word}
use Rattle.pi_base.specs.declared.word.Word.TheVariants.{Success, InvalidParameter, NotFound, OutOfResources, NotAvailableYet, AlreadyStarted, AccessDenied}
use Rattle.store_model.specs.{declared.store_handle.Desc.Desc, declared.store_handle.Pool.Pool}
use Rattle.boot_model.specs.PeiMachine.{Register, Empty, Number, PoolIn, DescriptorIn, HandleIn}

-- what the register of a number holds
abbrev pub register : List Register → ℕ → Register
register registers r = unwrap_or (slice_get registers r) Empty

-- the number that a register holds
abbrev pub number_of : Register → Option ℕ
number_of Empty = None
number_of (Number n) = Some n
number_of (PoolIn held) = None
number_of (DescriptorIn d) = None
number_of (HandleIn handle) = None

-- the pool that a register holds
abbrev pub pool_of : Register → Option Pool
pool_of Empty = None
pool_of (Number n) = None
pool_of (PoolIn held) = Some held
pool_of (DescriptorIn d) = None
pool_of (HandleIn handle) = None

-- the descriptor that a register holds
abbrev pub descriptor_of : Register → Option Desc
descriptor_of Empty = None
descriptor_of (Number n) = None
descriptor_of (PoolIn held) = None
descriptor_of (DescriptorIn d) = Some d
descriptor_of (HandleIn handle) = None

-- the handle that a register holds
abbrev pub handle_of : Register → Option ℕ
handle_of Empty = None
handle_of (Number n) = None
handle_of (PoolIn held) = None
handle_of (DescriptorIn d) = None
handle_of (HandleIn handle) = Some handle

-- the offset of the body that a pool or a descriptor is
abbrev pub offset_of : Register → Option ℕ
offset_of Empty = None
offset_of (Number n) = None
offset_of (PoolIn held) = Some held.offset
offset_of (DescriptorIn d) = Some d.offset
offset_of (HandleIn handle) = None

-- the number in a register
abbrev pub number_in : List Register → ℕ → Option ℕ
number_in registers r = number_of (register registers r)

-- the pool in a register
abbrev pub pool_in : List Register → ℕ → Option Pool
pool_in registers r = pool_of (register registers r)

-- the descriptor in a register
abbrev pub descriptor_in : List Register → ℕ → Option Desc
descriptor_in registers r = descriptor_of (register registers r)

-- the handle in a register
abbrev pub handle_in : List Register → ℕ → Option ℕ
handle_in registers r = handle_of (register registers r)

-- both of two, if both are there
abbrev pub both : {A B : Type 0} → Option A → Option B → Option (A × B)
both None other = None
both (Some a) None = None
both (Some a) (Some b) = Some (a, b)

-- the descriptors in these registers, if each holds one
abbrev pub descriptors_in : List Register → List ℕ → Option (List Desc)
descriptors_in registers [] = Some []
descriptors_in registers (r ∷ rs) = option_map (λ pair. pair.0 ∷ pair.1) (both (descriptor_in registers r) (descriptors_in registers rs))

-- whether a status is Success
abbrev pub is_success : Word → Bool
is_success Success = true
is_success InvalidParameter = false
is_success NotFound = false
is_success OutOfResources = false
is_success NotAvailableYet = false
is_success AlreadyStarted = false
is_success AccessDenied = false

-- how many actions a skip passes: those of condition 0 on Success, those of condition 1 on another status
abbrev pub skipped : Word → ℕ → ℕ → ℕ
skipped last condition n = if is_success last then (if condition == 0 then n else 0) else (if condition == 0 then 0 else n)
