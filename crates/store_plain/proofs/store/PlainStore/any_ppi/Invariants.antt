use Rattle.std.proofs.Common.{◌≡◌, drop}
use Rattle.std.specs.List.{list_any}
use Rattle.store_model.specs.Service.Descriptor.{is_ppi, kind_at}
use Rattle.store_plain.specs.PlainState.{state_of}
use Rattle.store_plain.proofs.store.PlainStore.any_ppi.Given as goal

abbrev pub invariant-descs : goal.invariant-descs
invariant-descs l = list_any (λ d. is_ppi (kind_at (state_of l.self) d.offset)) (drop l.d-index l.list) ≡ list_any (λ d. is_ppi (kind_at (state_of l.self) d.offset)) l.list
