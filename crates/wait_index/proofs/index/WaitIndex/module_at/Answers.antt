use Rattle.std.proofs.Common.{List, ℕ, ap, ◌∙◌, slice_get}
use Rattle.phase_parts.proofs.Got.{got}
use Rattle.wait_index.proofs.index.WaitIndex.module_at.Goals as goal

pub returns : goal.returns
returns c = c.copied.ensures ∙ got c.as_slice.result.now c.args.place c.get.result c.get.ensures.lookup ∙ ap (λ (order : List ℕ). slice_get order c.args.place) c.as_slice.ensures.value
