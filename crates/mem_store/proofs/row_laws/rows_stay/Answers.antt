use Rattle.mem_store.proofs.KeepingRows.{changed_rows, grown_rows, moved_rows}
use Rattle.mem_store.proofs.row_laws.rows_stay.Goals as goal

pub returns : goal.returns
returns c = record {
  grown = grown_rows;
  changed = changed_rows c.bodies_stay.ensures;
  moved = moved_rows c.bodies_stay.ensures;
}
