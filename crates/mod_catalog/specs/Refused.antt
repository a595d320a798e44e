-- A refusal is a fault of this kind, or memory ran out.
use Rattle.std.specs.Prelude.{◌≢◌}
use Rattle.mod_catalog.specs.{declared.image_fault.ImageCause.TheVariants.Memory, declared.image_fault.FaultAt.FaultAt}

abbrev pub IsRefusal : (FaultAt → Type 0) → FaultAt → Type 0
IsRefusal Is fault = fault.cause ≢ Memory → Is fault
