use Rattle.recorded_boot.proofs.OneOrder.{apart, one_bad, one_order, short}
use Rattle.recorded_boot.proofs.order.laws.one_reading.Goals as goal

pub returns-clause-orders : goal.returns-clause-orders
returns-clause-orders c = one_order

pub returns-clause-faults : goal.returns-clause-faults
returns-clause-faults c = one_bad

pub returns-clause-apart : goal.returns-clause-apart
returns-clause-apart c = apart

pub returns-clause-short : goal.returns-clause-short
returns-clause-short c = short
