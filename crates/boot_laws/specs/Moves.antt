-- The move to permanent memory changes no PPI, notification or other HOB.
-- PI 1.8, volume 1, "Installing PEI Memory".
use Rattle.std.specs.Prelude.{◌≡◌, Some}
use Rattle.store_model.specs.{StoreState.StoreState, StateFacts.IsStoreState, Migration.migration}
use Rattle.boot_model.specs.Unchanged.{IsUnchanged}

abbrev pub MovesChangeNothing : Type 0
MovesChangeNothing = (s new : StoreState) → IsStoreState s → migration s ≡ Some new → IsUnchanged s new
