-- What the action that makes a descriptor needs of its last operand.
-- Own.
use Rattle.std.specs.Prelude.{ℕ, ◌<◌, ⊤}
use Rattle.boot_model.specs.declared.frame.TheConstants.{BLOCKS}
use Rattle.store_model.specs.declared.store_handle.DescKind.{DescKind}
use Rattle.store_model.specs.declared.store_handle.DescKind.TheVariants.{Ppi, Callback, Dispatch}

-- that of a notification is the number of a block
abbrev pub IsArgument : DescKind → ℕ → Type 0
IsArgument Ppi arg = ⊤
IsArgument Callback arg = arg < BLOCKS
IsArgument Dispatch arg = arg < BLOCKS
