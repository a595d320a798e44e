use Rattle.program_edge.proofs.file_kind.has_loading.Goals as goal

pub returns : goal.returns
returns c = rw c.as_slice-2.ensures at (rw c.as_slice.ensures at c.begins_either.ensures)
