-- How a boot along an order ends if it is left before a start, or has ended, by what the order asks for after so many starts. Own.
use Rattle.std.specs.Prelude.{◌≡◌, ℕ, Option, Some, None, slice_get, take}
use Rattle.mod_catalog.specs.declared.catalogue.Catalog.{Catalog}
use Rattle.store_model.specs.{HandleState.HandleState, HandleState.no_handles, StoreState.StoreState}
use Rattle.boot_model.specs.declared.line.RunEnd.{RunEnd}
use Rattle.recorded_boot.specs.{declared.order.line.AskedStart.AskedStart, declared.order.lines.StartOrder.StartOrder}
use Rattle.recorded_boot.specs.{declared.follow.against.Against.Against, declared.follow.followed.Followed.Followed, Against.StandsAgainst}
use Rattle.recorded_boot.specs.declared.follow.followed.Followed.TheVariants.{Ended, Stopped, No}
use Rattle.boot_core.specs.declared.whole.boot.Booted.{Booted}
use Rattle.boot_core.specs.declared.whole.boot.Booted.TheVariants as B
use Rattle.recorded_boot.specs.ByOrder.{starts_of}

-- the order asks for a start there that is not possible
pub record IsRefused (catalog : Catalog) (order : StartOrder) (index : ℕ) (s : StoreState) (h : HandleState) (line : ℕ) (against : Against) : Type 0 where
  pub asked : AskedStart
  pub asks : slice_get order.starts index ≡ Some asked
  pub line_is : line ≡ asked.line
  pub stood : StandsAgainst catalog (starts_of (take index order.starts)) s h asked.start against

-- after so many starts, if the boot has ended with a result, or is left before the next start
abbrev pub ComesTo : Catalog → StartOrder → ℕ → StoreState → HandleState → Option RunEnd → Followed → Type 0
ComesTo catalog order index s h end (Ended so) = (end ≡ Some so) × (slice_get order.starts index ≡ None)
ComesTo catalog order index s h end Stopped = (end ≡ None) × (slice_get order.starts index ≡ None)
ComesTo catalog order index s h end (No line against) = IsRefused catalog order index s h line against

-- the store that a boot has left
abbrev pub store_of : {M : Type 0} → Booted M → M
store_of (B.Ended ran) = ran.pei.store
store_of (B.BarredInPei barred) = barred.store
store_of (B.BarredInDxe pei barred) = pei.store

-- by what the boot has come to, over the state of its store
abbrev pub LeavesBoot : {M : Type 0} → Catalog → StartOrder → StoreState → Booted M → Followed → Type 0
LeavesBoot catalog order s (B.Ended ran) followed = ComesTo catalog order ran.before.starts s ran.handles (Some ran.«end») followed
LeavesBoot catalog order s (B.BarredInPei barred) followed = ComesTo catalog order barred.starts s no_handles None followed
LeavesBoot catalog order s (B.BarredInDxe pei barred) followed = ComesTo catalog order barred.before.starts s barred.handles None followed
