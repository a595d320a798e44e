-- The starts that a boot has made, compared with those that an order asks for.
-- Own.
use Rattle.std.specs.Prelude.{◌≡◌, ◌⊎◌, ◌≤◌, ℕ, List, None, length}
use Rattle.recorded_boot.specs.{declared.order.line.Start.Start, declared.order.lines.StartOrder.StartOrder, Starts.ComeFirst}
use Rattle.recorded_boot.specs.ByOrder.{starts_of}

-- starts are made as an order asks: they are its first ones, or they continue after all of them, if it does not stop
abbrev pub IsAlong : StartOrder → List Start → Type 0
IsAlong order made = ComeFirst made (starts_of order.starts) ⊎ ((order.stop ≡ None) × ComeFirst (starts_of order.starts) made)

-- this is how many starts there were, or both are no fewer than those of the order: the core of PEI counts to the last u32
abbrev pub IsIndex : StartOrder → List Start → ℕ → Type 0
IsIndex order made index = (index ≡ length made) ⊎ ((length order.starts ≤ index) × (length order.starts ≤ length made))
