use Rattle.std.proofs.Common.{ap, ◌∙◌}
use Rattle.hob_codec.specs.{HobValue.HandoffHob, HobBytes.hob_bytes}
use Rattle.store_plain.specs.Peeking.{byte_of}
use Rattle.store_plain.proofs.store.PlainStore.handoff_byte.Goals as goal

pub returns : goal.returns
returns c = c.byte_in.ensures ∙ ap (λ bytes. byte_of bytes c.args.at) (c.as_slice.ensures ∙ c.encode_into.ensures ∙ ap (λ handoff. hob_bytes (HandoffHob handoff)) c.handoff.ensures)
