-- The line of an expression.
use Rattle.std.proofs.Common.{◌≡◌, ℕ, List, Ok, Err, refl}
use Rattle.pi_base.specs.declared.phase.Phase.{Phase}
use Rattle.volume_text.specs.{declared.fault.Stop.Stop, declared.fault.Stop.TheVariants.Fault, declared.fault.Stop.TheVariants.Memory}
use Rattle.volume_text.specs.{declared.statement.Statement.TheVariants.Depex, Reading.StopsAs, Words.phase_at, Line.IsBody, Line.ReadsDepex}

pub depex_stops : (others rest : List (List ℕ)) (phase : Phase) (stop : Stop) → phase_at others ≡ Ok (phase, rest) → StopsAs (IsBody phase rest) stop → StopsAs (ReadsDepex others) stop
depex_stops others rest phase (Fault c) is told = rw is (Err c, told, refl)
depex_stops others rest phase Memory is told = tt

pub depex_there : (others rest : List (List ℕ)) (phase : Phase) (body : List ℕ) → phase_at others ≡ Ok (phase, rest) → IsBody phase rest (Ok body) → ReadsDepex others (Ok (Depex phase body))
depex_there others rest phase body is told = rw is (Ok body, told, refl)
