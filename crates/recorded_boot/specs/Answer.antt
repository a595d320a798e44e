-- How a whole boot along an order ends, by its answer.
-- Own.
use Rattle.std.specs.Prelude.{ℕ, Result, Ok, Err, ⊤}
use Rattle.boot_io.specs.declared.halt.Halt.{Halt}
use Rattle.mod_catalog.specs.declared.catalogue.Catalog.{Catalog}
use Rattle.store_model.specs.StoreState.{Board}
use Rattle.boot_trace.specs.Printing.{Texts}
use Rattle.recorded_boot.specs.{declared.order.lines.StartOrder.StartOrder, declared.follow.followed.Followed.Followed}
use Rattle.recorded_boot.specs.declared.follow.followed.Followed.TheVariants.{Ended, Stopped, No}
use Rattle.recorded_boot.specs.Following.{HasEnded, HasStopped, IsNo}
use Rattle.recorded_boot.specs.InOrder.{BootsInOrder}

-- what it is among the free boots
abbrev pub IsAmongFree : Board → Catalog → ℕ → StartOrder → Texts → Followed → Type 0
IsAmongFree board catalog fuel order t (Ended end) = HasEnded board catalog fuel order end t
IsAmongFree board catalog fuel order t Stopped = HasStopped board catalog fuel order t
IsAmongFree board catalog fuel order t (No line against) = IsNo board catalog fuel order line against t

-- it is the boot in the order, of which there is one
abbrev pub FollowsTo : Board → Catalog → ℕ → StartOrder → Texts → Result Followed Halt → Type 0
FollowsTo board catalog fuel order t (Ok followed) = IsAmongFree board catalog fuel order t followed × BootsInOrder board catalog fuel order t followed
FollowsTo board catalog fuel order t (Err halt) = ⊤
