-- What all services keep: what holds of every state of a store holds of the first, and of each state that a service or the move answers.
-- Own.
use Rattle.std.specs.Prelude.{◌≡◌, ℕ, ◌+◌, ◌<◌, ◌^◌, List, length, Ok, Err, IfSome, ⊤}
use Rattle.hob_codec.specs.HobBytes.{fields_of, joined, length_of}
use Rattle.hob_codec.specs.HobValue.{HobValue}
use Rattle.pi_base.specs.Lists.{Each}
use Rattle.store_model.specs.{declared.store_handle.Desc.Desc, declared.store_handle.DescKind.DescKind}
use Rattle.store_model.specs.declared.store_handle.GuidFrom.{GuidFrom}
use Rattle.store_model.specs.declared.store_handle.GuidFrom.TheVariants.{Inline, At}
use Rattle.store_model.specs.{declared.store_handle.Pool.Pool, StoreCall.IsScriptHob, Migration.migration, Service.Service}
use Rattle.store_model.specs.StoreState.{Board, StoreState, empty_store, header_len}
use Rattle.store_model.specs.StateFacts.{IsBoard, IsStoreState, IsDesc, IsPool, IsNumberOf}
use Rattle.store_model.specs.Service.Pool as P
use Rattle.store_model.specs.Service.Descriptor as D
use Rattle.store_model.specs.Service.Install as I
use Rattle.store_model.specs.Service.Notify as N
use Rattle.store_model.specs.Service.Queue as Q
use Rattle.store_model.specs.Service.Hob as H
use Rattle.store_model.specs.Service.Memory as M

-- the state after a call, if the call is not refused
abbrev pub Keeps : {A : Type 0} → Service A → Type 0
Keeps (Ok (answer, t)) = IsStoreState t
Keeps (Err fault) = ⊤

-- a GUID that is handed in has sixteen bytes
abbrev pub IsWholeGuid : GuidFrom → Type 0
IsWholeGuid (Inline guid) = length guid.0 ≡ 16
IsWholeGuid (At address) = ⊤

-- an argument of 32 bits, as a module's number
abbrev pub IsWord : ℕ → Type 0
IsWord n = n < 2 ^ 32

-- a descriptor as a call makes it
pub record IsMade (kind : DescKind) (guid : GuidFrom) (number : ℕ) : Type 0 where
  pub guid_is : IsWholeGuid guid
  pub number_is : IsNumberOf kind number

-- a HOB as a script makes it, whose fields have their lengths
pub record IsScripted (hob : HobValue) : Type 0 where
  pub script : IsScriptHob hob
  pub len : header_len + length (joined (fields_of hob)) ≡ length_of hob

-- for each service, with the needs of its call; here arguments are any numbers and lists, so that they fit their width is one of the needs
pub record KeepFacts : Type 0 where
  pub first : (board : Board) → IsBoard board → IsStoreState (empty_store board)
  pub pool : (s : StoreState) (size : ℕ) → IsStoreState s → Keeps (P.pool s size)
  pub store : (s : StoreState) (to : Pool) (at : ℕ) (bytes : List ℕ) → IsStoreState s → IsPool s to
      → IfSome (P.store s to at bytes) IsStoreState
  pub desc : (s : StoreState) (kind : DescKind) (guid : GuidFrom) (number : ℕ) → IsStoreState s → IsMade kind guid number
      → Keeps (D.desc s kind guid number)
  pub install : (s : StoreState) (list : List Desc) (by : ℕ) → IsStoreState s → Each (IsDesc s) list → IsWord by
      → Keeps (I.install s list by)
  pub reinstall : (s : StoreState) (old new : Desc) (by : ℕ) → IsStoreState s → IsDesc s old → IsDesc s new → IsWord by
      → Keeps (I.reinstall s old new by)
  pub core_install : (s : StoreState) → IsStoreState s → Keeps (I.core_install s)
  pub notify : (s : StoreState) (list : List Desc) (by : ℕ) → IsStoreState s → Each (IsDesc s) list → IsWord by
      → Keeps (N.notify s list by)
  pub queue_pop : (s : StoreState) → IsStoreState s → IfSome (Q.queue_pop s) (λ told. IsStoreState told.1)
  pub create_hob : (s : StoreState) (hob : HobValue) → IsStoreState s → IsScripted hob → Keeps (H.create_hob s hob)
  pub set_memory : (s : StoreState) (begin len : ℕ) → IsStoreState s → Keeps (M.set_memory s begin len)
  pub pages : (s : StoreState) (memory_type count : ℕ) → IsStoreState s → IsWord memory_type → IsWord count
      → Keeps (M.pages s memory_type count)
  pub boot_mode : (s : StoreState) (mode : ℕ) → IsStoreState s → IsWord mode → IsStoreState (M.with_boot_mode s mode)
  pub move : (s : StoreState) → IsStoreState s → IfSome (migration s) IsStoreState
