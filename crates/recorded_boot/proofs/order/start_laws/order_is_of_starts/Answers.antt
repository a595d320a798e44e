use Rattle.recorded_boot.proofs.OrderStarts as Law
use Rattle.recorded_boot.proofs.order.start_laws.order_is_of_starts.Goals as goal

pub returns : goal.returns
returns c = λ lines. Law.same_starts 1 lines
