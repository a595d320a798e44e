use Rattle.std.proofs.Common.{sym, ap, ◌∙◌, ◌+◌, arith}
use Rattle.store_model.specs.Service.Sweep.{first_firing, pairs_with}
use Rattle.store_plain.specs.PlainState.{state_of}
use Rattle.store_laws.proofs.Sweeps.{got, misses, pair_more}
use Rattle.store_plain.proofs.store.PlainStore.match_of.Goals as goal

pub notes-preserved : goal.notes-preserved
notes-preserved c =
    let s = state_of c.args.self.now in
    let sweep = c.args.sweep.now in
    let ppi = got s.ppis c.args.ppi c.index.result.now c.requires.ppi c.index.ensures in
    let note = got s.callbacks c.notes.note c.index-in-notes.result.now (omega (arith, c.notes-test.true, c.requires.notes)) c.index-in-notes.ensures in
    let differ = sym c.have_one_guid.ensures ∙ c.if-have_one_guid.false in
    let more = ap (first_firing s sweep) (pair_more sweep c.args.ppi c.notes.note c.notes-test.true) in
    sym (misses s sweep c.args.ppi c.notes.note c.index.result.now c.index-in-notes.result.now ppi note differ (pairs_with sweep (c.notes.note + 1) c.args.ppi)) ∙ sym more ∙ c.notes.invariant
