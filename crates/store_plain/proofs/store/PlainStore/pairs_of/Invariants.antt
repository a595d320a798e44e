use Rattle.std.proofs.Common.{◌≡◌, ◌++◌, drop}
use Rattle.store_model.specs.Service.Install.{pairs_of}
use Rattle.store_plain.specs.PlainState.{state_of}
use Rattle.store_plain.proofs.store.PlainStore.pairs_of.Given as goal

abbrev pub invariant-ppis : goal.invariant-ppis
invariant-ppis l = l.pairs.items ++ pairs_of (state_of l.self) (drop l.ppi-index l.ppis) l.notes ≡ pairs_of (state_of l.self) l.ppis l.notes
