-- What the handles keep: interfaces are in order of handle, a handle has a protocol once, and each handle was made. So the first interface of a protocol is on
-- the lowest handle that has it. Own; PI 1.8, volume 2, "Protocol Handler Services", has one interface of a protocol on a handle.
use Rattle.std.specs.Prelude.{◌≡◌, ◌≤◌, ℕ, true, false, Option, Some, Ok, Err, ⊤}
use Rattle.pi_base.specs.{declared.guid.Guid.Guid, Guids.same_guid, Lists.Each, Lists.Ordered}
use Rattle.store_model.specs.HandleState.{Interface, HandleState, HandleService, no_handles, is_on, install_interface, reinstall_interface, uninstall_interface, locate_handle}

-- one interface is before another or on the same handle
abbrev pub IsNotBehind : Interface → Interface → Type 0
IsNotBehind a b = a.handle ≤ b.handle

-- two interfaces are of two handles, or of two protocols
abbrev pub AreOfOthers : Interface → Interface → Type 0
AreOfOthers a b = (is_on b.handle b.guid a ≡ false) × (is_on a.handle a.guid b ≡ false)

-- the handle of an interface is one of those that were made, which are numbered from 1
abbrev pub WasMade : ℕ → Interface → Type 0
WasMade made i = (1 ≤ i.handle) × (i.handle ≤ made)

-- what the handles keep in every state
pub record IsHandleState (h : HandleState) : Type 0 where
  pub in_order : Ordered IsNotBehind h.interfaces
  pub once : Ordered AreOfOthers h.interfaces
  pub made : Each (WasMade h.made) h.interfaces

-- what a service leaves is such a state
abbrev pub Keeps : {A : Type 0} → HandleService A → Type 0
Keeps (Ok (answer, new)) = IsHandleState new
Keeps (Err status) = ⊤

-- at the beginning, and after each service
pub record KeepHandleFacts : Type 0 where
  pub first : IsHandleState no_handles
  pub install : (h : HandleState) (handle : Option ℕ) (guid : Guid) (value : ℕ) → IsHandleState h → Keeps (install_interface h handle guid value)
  pub reinstall : (h : HandleState) (handle : ℕ) (guid : Guid) (old new : ℕ) → IsHandleState h → Keeps (reinstall_interface h handle guid old new)
  pub uninstall : (h : HandleState) (handle : ℕ) (guid : Guid) (value : ℕ) → IsHandleState h → Keeps (uninstall_interface h handle guid value)

-- the handle that is located is the lowest that has the protocol
abbrev pub LocatedIsLowest : Type 0
LocatedIsLowest =
    (h : HandleState) (guid : Guid) (handle value : ℕ) → IsHandleState h → locate_handle h guid ≡ Some (handle, value)
    → Each (λ i. same_guid i.guid guid ≡ true → handle ≤ i.handle) h.interfaces
