use Rattle.std.proofs.Common.{ap, ◌∙◌, replicate}
use Rattle.hob_codec.specs.{HobValue.AllocationHob, HobBytes.joined, HobBytes.fields_of}
use Rattle.store_model.specs.HeapImage.{body_bytes}
use Rattle.store_plain.specs.{PlainState.state_of, Peeking.byte_of}
use Rattle.store_plain.proofs.store.PlainStore.body_byte.Goals as goal

pub returns-in-Allocation : goal.returns-in-Allocation
returns-in-Allocation c =
    let a = c.in-Allocation.a in
    c.allocation_byte.ensures ∙ ap (λ base. byte_of (joined (fields_of (AllocationHob (replicate 16 0) base a.len a.memory_type))) c.args.at) c.saturating_sub.ensures
    ∙ ap (λ body. byte_of (body_bytes (state_of c.args.self.now) c.args.place body) c.args.at) c.in-Allocation.ensures
