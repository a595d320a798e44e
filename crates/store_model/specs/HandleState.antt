-- The handles of DXE: interfaces in order of handle and then of time, and how many handles were made. A handle is live while it has an interface.
-- Each service is one function of the state before: its answer and the state after, or a status, which leaves the state as it was.
-- PI 1.8, volume 2, "Protocol Handler Services".
use Rattle.std.specs.Prelude.{ℕ, ◌+◌, Bool, ◌==◌, ◌&&◌, ◌||◌, not, if◌then◌else◌, nat_lt, List, [], ◌∷◌, ◌++◌, Option, Some, None, Result, Ok, Err, find, option_map}
use Rattle.std.specs.List.{list_any}
use Rattle.pi_base.specs.{declared.guid.Guid.Guid, declared.word.Word.Word}
use Rattle.pi_base.specs.{declared.word.Word.TheVariants.InvalidParameter, declared.word.Word.TheVariants.NotFound, Guids.same_guid}
pub use Rattle.store_model.specs.declared.interface.Interface.{Interface}

-- `made` counts all handles that were ever made, also those that are gone
pub record HandleState : Type 0 where
  pub interfaces : List Interface
  pub made : ℕ

-- the handles at the beginning of DXE
abbrev pub no_handles : HandleState
no_handles = record { interfaces = []; made = 0 }

-- what a service answers with the state after it, or its status
abbrev pub HandleService : Type 0 → Type 0
HandleService A = Result (A × HandleState) Word

-- whether a handle has an interface
abbrev pub is_live : HandleState → ℕ → Bool
is_live h handle = list_any (λ i. i.handle == handle) h.interfaces

-- whether a protocol is on a handle
abbrev pub is_on : ℕ → Guid → Interface → Bool
is_on handle guid i = i.handle == handle && same_guid i.guid guid

-- whether it is on the handle with a value
abbrev pub is_on_with : ℕ → Guid → ℕ → Interface → Bool
is_on_with handle guid value i = is_on handle guid i && i.value == value

-- whether a protocol is on any handle
abbrev pub has_protocol : HandleState → Guid → Bool
has_protocol h guid = list_any (λ i. same_guid i.guid guid) h.interfaces

-- an interface after the others of its handle
abbrev pub placed : Interface → List Interface → List Interface
placed new [] = new ∷ []
placed new (i ∷ is) = if nat_lt new.handle i.handle then new ∷ i ∷ is else i ∷ placed new is

-- an interface on a new handle; the answer is its number
abbrev pub install_new : HandleState → Guid → ℕ → HandleService ℕ
install_new h guid value =
    Ok (h.made + 1, record { interfaces = h.interfaces ++ record { handle = h.made + 1; guid = guid; value = value } ∷ []; made = h.made + 1 })

-- an interface on a live handle that has no interface of the protocol
abbrev pub install_on : HandleState → ℕ → Guid → ℕ → HandleService ℕ
install_on h handle guid value =
    if not (is_live h handle) || list_any (is_on handle guid) h.interfaces then Err InvalidParameter
    else Ok (handle, record h { interfaces = placed (record { handle = handle; guid = guid; value = value }) h.interfaces })

-- `InstallProtocolInterface()`: on a new handle if none is given, else on that one
abbrev pub install_interface : HandleState → Option ℕ → Guid → ℕ → HandleService ℕ
install_interface h None guid value = install_new h guid value
install_interface h (Some handle) guid value = install_on h handle guid value

-- the first interface that passes a test has another value
abbrev pub with_value : (Interface → Bool) → ℕ → List Interface → List Interface
with_value test value [] = []
with_value test value (i ∷ is) = if test i then record i { value = value } ∷ is else i ∷ with_value test value is

-- without the first interface that passes a test
abbrev pub without : (Interface → Bool) → List Interface → List Interface
without test [] = []
without test (i ∷ is) = if test i then is else i ∷ without test is

-- a change of the interface that a live handle has of a protocol, with a value
abbrev pub change_of : HandleState → ℕ → Guid → ℕ → List Interface → HandleService (Unit {0})
change_of h handle guid value changed =
    if not (is_live h handle) then Err InvalidParameter
    else if list_any (is_on_with handle guid value) h.interfaces then Ok (tt, record h { interfaces = changed })
    else Err NotFound

-- `ReinstallProtocolInterface()`: the interface keeps its place and has the new value
abbrev pub reinstall_interface : HandleState → ℕ → Guid → ℕ → ℕ → HandleService (Unit {0})
reinstall_interface h handle guid old new = change_of h handle guid old (with_value (is_on_with handle guid old) new h.interfaces)

-- `UninstallProtocolInterface()`: the interface is gone, and with its last one the handle
abbrev pub uninstall_interface : HandleState → ℕ → Guid → ℕ → HandleService (Unit {0})
uninstall_interface h handle guid value = change_of h handle guid value (without (is_on_with handle guid value) h.interfaces)

-- the lowest live handle with a protocol, and the interface's value
abbrev pub locate_handle : HandleState → Guid → Option (ℕ × ℕ)
locate_handle h guid = option_map (λ i. (i.handle, i.value)) (find (λ i. same_guid i.guid guid) h.interfaces)
