use Rattle.std.proofs.Common.{◌+◌, ◌<◌, length, ap, ◌∙◌, arith, Some, sym}
use Rattle.store_model.specs.{declared.store_handle.Firing.Firing, declared.store_handle.Sweep.Sweep}
use Rattle.store_plain.specs.PlainState.{state_of}
use Rattle.store_laws.proofs.{Named.callback_is_entry, Sweeps.got, Sweeps.fires_at}
use Rattle.store_plain.proofs.store.PlainStore.next_firing.Goals as goal

pub firing-requires-clause-entry : goal.firing-requires-clause-entry
firing-requires-clause-entry c =
    let s = state_of c.args.self.now in
    let note : c.in-Some.note < length s.callbacks = omega (arith, c.in-Some.ensures.note, c.requires.sweep.notes) in
    callback_is_entry s c.in-Some.note c.index-in-Some.result.now c.requires.facts (got s.callbacks c.in-Some.note c.index-in-Some.result.now note c.index-in-Some.ensures)

pub returns-in-Some : goal.returns-in-Some
returns-in-Some c =
    let s = state_of c.args.self.now in
    let sweep = c.args.sweep.now in
    let note : c.in-Some.note < length s.callbacks = omega (arith, c.in-Some.ensures.note, c.requires.sweep.notes) in
    let ppi : c.in-Some.ppi < length s.ppis = omega (arith, c.in-Some.ensures.ppi, c.requires.sweep.ppis) in
    let there = fires_at s sweep c.in-Some.ppi c.in-Some.note c.index.result.now c.index-in-Some.result.now
    (got s.ppis c.in-Some.ppi c.index.result.now ppi c.index.ensures) (got s.callbacks c.in-Some.note c.index-in-Some.result.now note c.index-in-Some.ensures) in
    let with : Firing → Firing × Sweep = λ firing. (firing, record sweep { ppi_at = c.in-Some.ppi; note_at = c.in-Some.note + 1 }) in
    c.in-Some.ensures.found ∙ there ∙ ap (λ firing. Some (with firing)) (sym c.firing.ensures)
