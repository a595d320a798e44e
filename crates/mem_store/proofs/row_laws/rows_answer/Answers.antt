use Rattle.mem_store.proofs.TellingRows.{has_is, nth_is, pairs_are}
use Rattle.mem_store.proofs.row_laws.rows_answer.Goals as goal

pub returns : goal.returns
returns c = record { has = has_is; nth = nth_is; pairs = pairs_are }
