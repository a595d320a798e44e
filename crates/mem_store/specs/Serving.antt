-- What the services leave of the rows: those of the three lists as they were, behind them those of what is installed or registered,
-- and another where a PPI takes the place of one.
-- PI 1.8, volume 1, "PEI Services".
use Rattle.std.specs.Prelude.{◌≡◌, ℕ, List, [], ◌∷◌, ◌++◌, map, Ok, Err, IfSome, slice_set, ⊤}
use Rattle.pi_base.specs.{Lists.Each, declared.known_guid.TheConstants.MEMORY_PPI}
use Rattle.hob_codec.specs.HobValue.{HobValue}
use Rattle.store_model.specs.{declared.store_handle.Desc.Desc, declared.store_handle.DescKind.DescKind}
use Rattle.store_model.specs.{declared.store_handle.GuidFrom.GuidFrom, declared.store_handle.Pool.Pool}
use Rattle.store_model.specs.{StoreState.StoreState, StoreState.next_body, Migration.migration, Service.Service}
use Rattle.store_model.specs.StateFacts.{IsDesc, IsPool, IsStoreState}
use Rattle.store_model.specs.Service.Descriptor as D
use Rattle.store_model.specs.Service.Hob as H
use Rattle.store_model.specs.Service.Install as I
use Rattle.store_model.specs.Service.Memory as M
use Rattle.store_model.specs.Service.Notify as N
use Rattle.store_model.specs.Service.Pool as P
use Rattle.store_model.specs.Service.Queue as Q
use Rattle.mem_store.specs.Nodes.{Begins, named_rows, with_other}
use Rattle.mem_store.specs.Rows.{row_at, rows_of}

-- the rows of the three lists are the same
pub record RowsSame (s t : StoreState) : Type 0 where
  pub ppis : rows_of t t.ppis ≡ rows_of s s.ppis
  pub callbacks : rows_of t t.callbacks ≡ rows_of s s.callbacks
  pub dispatches : rows_of t t.dispatches ≡ rows_of s s.dispatches
  pub named : named_rows t ≡ named_rows s

-- what is handed in are descriptors still, of the same GUIDs
pub record DescsStay (s t : StoreState) (list : List Desc) : Type 0 where
  pub there : Each (IsDesc t) list
  pub rows : map (row_at t) (D.offsets list) ≡ map (row_at s) (D.offsets list)
  pub callbacks : map (row_at t) (N.new_callbacks t list) ≡ map (row_at s) (N.new_callbacks s list)
  pub dispatches : map (row_at t) (N.new_dispatches t list) ≡ map (row_at s) (N.new_dispatches s list)

-- with those of PPIs that are installed behind the others
pub record RowsInstalled (s t : StoreState) (list : List Desc) : Type 0 where
  pub descs : DescsStay s t list
  pub ppis : rows_of t t.ppis ≡ rows_of s s.ppis ++ map (row_at s) (D.offsets list)
  pub callbacks : rows_of t t.callbacks ≡ rows_of s s.callbacks
  pub dispatches : rows_of t t.dispatches ≡ rows_of s s.dispatches
  pub named : Begins (named_rows s) (named_rows t)

-- with that of another descriptor in the place of one
pub record RowsReplaced (s t : StoreState) (place : ℕ) (new : Desc) : Type 0 where
  pub ppis : rows_of t t.ppis ≡ slice_set (rows_of s s.ppis) place (row_at s new.offset)
  pub callbacks : rows_of t t.callbacks ≡ rows_of s s.callbacks
  pub dispatches : rows_of t t.dispatches ≡ rows_of s s.dispatches
  pub named : named_rows t ≡ with_other (named_rows s) place new.offset

-- with that of the PPI of permanent memory behind the others, whose descriptor is the next body
pub record RowsOfCore (s t : StoreState) : Type 0 where
  pub ppis : rows_of t t.ppis ≡ rows_of s s.ppis ++ record { guid = MEMORY_PPI; at = next_body s } ∷ []
  pub callbacks : rows_of t t.callbacks ≡ rows_of s s.callbacks
  pub dispatches : rows_of t t.dispatches ≡ rows_of s s.dispatches
  pub named : Begins (named_rows s) (named_rows t)

-- with those of new notifications behind the others of their kinds
pub record RowsNotified (s t : StoreState) (list : List Desc) : Type 0 where
  pub descs : DescsStay s t list
  pub ppis : rows_of t t.ppis ≡ rows_of s s.ppis
  pub callbacks : rows_of t t.callbacks ≡ rows_of s s.callbacks ++ map (row_at s) (N.new_callbacks s list)
  pub dispatches : rows_of t t.dispatches ≡ rows_of s s.dispatches ++ map (row_at s) (N.new_dispatches s list)
  pub named : named_rows t ≡ named_rows s

-- where a service answers, the state after it is so
abbrev pub After : {A : Type 0} → (StoreState → Type 0) → Service A → Type 0
After P (Ok answer) = P answer.1
After P (Err fault) = ⊤

pub record ServicesKeepRows : Type 0 where
  pub pool : (s : StoreState) (size : ℕ) → IsStoreState s → After (RowsSame s) (P.pool s size)
  pub store : (s : StoreState) (to : Pool) (at : ℕ) (bytes : List ℕ) → IsStoreState s → IsPool s to → IfSome (P.store s to at bytes) (RowsSame s)
  pub desc : (s : StoreState) (kind : DescKind) (guid : GuidFrom) (number : ℕ) → IsStoreState s → After (RowsSame s) (D.desc s kind guid number)
  pub install : (s : StoreState) (list : List Desc) (by : ℕ) → IsStoreState s → Each (IsDesc s) list
      → After (λ t. RowsInstalled s t list) (I.install s list by)
  pub reinstall : (s : StoreState) (old new : Desc) (by : ℕ) → IsStoreState s → IsDesc s new
      → After (λ t. RowsReplaced s t (I.place_of s.ppis old.offset) new) (I.reinstall s old new by)
  pub notify : (s : StoreState) (list : List Desc) (by : ℕ) → IsStoreState s → Each (IsDesc s) list
      → After (λ t. RowsNotified s t list) (N.notify s list by)
  pub core_install : (s : StoreState) → IsStoreState s → After (RowsOfCore s) (I.core_install s)
  pub queue_pop : (s : StoreState) → IsStoreState s → IfSome (Q.queue_pop s) (λ told. RowsSame s told.1)
  pub create_hob : (s : StoreState) (hob : HobValue) → IsStoreState s → After (RowsSame s) (H.create_hob s hob)
  pub set_memory : (s : StoreState) (begin len : ℕ) → IsStoreState s → After (RowsSame s) (M.set_memory s begin len)
  pub pages : (s : StoreState) (memory_type count : ℕ) → IsStoreState s → After (RowsSame s) (M.pages s memory_type count)
  pub boot_mode : (s : StoreState) (mode : ℕ) → IsStoreState s → RowsSame s (M.with_boot_mode s mode)
  pub move : (s : StoreState) → IsStoreState s → IfSome (migration s) (RowsSame s)
