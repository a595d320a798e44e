use Rattle.std.proofs.Common.{◌≡◌, ◌++◌, ◌==◌, drop, map, filter}
use Rattle.pi_base.specs.Field.{little_number}
use Rattle.hob_codec.specs.declared.kind.TheConstants.{VOLUME}
use Rattle.store_model.specs.{HeapImage.body_bytes, Service.Reading.fv_bases}
use Rattle.store_plain.specs.PlainState.{state_of}
use Rattle.store_plain.proofs.store.PlainStore.volume_bases.Given as goal

abbrev pub invariant-hobs : goal.invariant-hobs
invariant-hobs l =
    l.bases ++ map (λ hob. little_number 8 (body_bytes (state_of l.self) 0 hob.body)) (filter (λ hob. hob.kind == VOLUME) (drop l.hob-index l.self.hobs.items)) ≡ fv_bases (state_of l.self)
