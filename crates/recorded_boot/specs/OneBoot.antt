-- An order leads to one answer, and one text.
-- Own.
use Rattle.std.specs.Prelude.{◌≡◌, ◌≤◌, ◌-◌, ◌^◌, ℕ, List, [], Some, Result, Ok, Err, length, ⊤}
use Rattle.pi_base.specs.{Field.AreBytes, Lists.Each}
use Rattle.boot_plan.specs.declared.plan.Plan.{Plan}
use Rattle.mod_catalog.specs.{declared.catalogue.Catalog.Catalog, WellFormed.IsWellFormed}
use Rattle.store_model.specs.StoreState.{Board}
use Rattle.boot_trace.specs.Printing.{Texts}
use Rattle.recorded_boot.specs.{Named.HasNoTwins, declared.order.lines.StartOrder.StartOrder, declared.follow.followed.Followed.Followed}
use Rattle.recorded_boot.specs.{declared.follow.images.FollowFault.FollowFault, Answer.FollowsTo, Follow.Follows}
use Rattle.recorded_boot.specs.declared.follow.images.FollowFault.TheVariants.{Image, Twins, Sink, Memory}

-- this text was written, and nothing before it
abbrev pub put : List ℕ → Texts
put text = record { old = Some []; new = Some text }

-- a boot that ends, or is left, in the same order ends in the same way, with the same text
abbrev pub OneBoot : Type 0
OneBoot = (board : Board) (catalog : Catalog) (fuel : ℕ) (order : StartOrder) → IsWellFormed catalog → HasNoTwins catalog → length order.starts ≤ 2 ^ 32 - 1
    → (one other : Followed) (text told : List ℕ) → FollowsTo board catalog fuel order (put text) (Ok one) → FollowsTo board catalog fuel order (put told) (Ok other)
    → (one ≡ other) × (text ≡ told)

-- the answer is neither that the sink failed nor that memory ran out
abbrev pub IsAnswer : Result Followed FollowFault → Type 0
IsAnswer (Ok followed) = ⊤
IsAnswer (Err (Image fault)) = ⊤
IsAnswer (Err (Twins volume)) = ⊤
IsAnswer (Err Sink) = ⊥
IsAnswer (Err Memory) = ⊥

-- a plan, its images and an order have one answer
abbrev pub OneAnswer : Type 0
OneAnswer = (plan : Plan) (images : List (List ℕ)) (order : StartOrder) → Each AreBytes images → length order.starts ≤ 2 ^ 32 - 1
    → (one other : Result Followed FollowFault) (text told : List ℕ) → IsAnswer one → IsAnswer other
    → Follows plan images order (put text) one → Follows plan images order (put told) other → (one ≡ other) × (text ≡ told)
