-- Nothing runs at the opening.
use Rattle.std.proofs.Common.{arith}
use Rattle.boot_laws.specs.SoundRuns.{OpeningIsSound}

pub opening_is_sound : OpeningIsSound
opening_is_sound board catalog = record { held = tt; modules = tt; sweeps = tt; core_sweep = tt; few = omega arith }
