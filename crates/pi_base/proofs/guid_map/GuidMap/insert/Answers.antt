use Rattle.std.proofs.Common.{subst, nat_cmp}
use Rattle.std.specs.BTreeMap.{insert_entry}
use Rattle.pi_base.specs.GuidMap.{entries_of, IsPut}
use Rattle.pi_base.proofs.Numbered.{put, stands}
use Rattle.pi_base.proofs.guid_map.GuidMap.insert.Goals as goal
use Rattle.pi_base.proofs.guid_map.GuidMap.insert.Goals.{in-Ok, in-Err}

pub invariant_of-self : goal.invariant_of-self
invariant_of-self g c =
    let entries = c.self.inside.values.entries in
    let n = c.number_of-number.result in
    elim c.match-insert.branch [
      | in-Ok w ↦ rw w.in-Ok.ensures.entries (stands entries n _ c.number_of-number.ensures.fits c.self.invariant)
      | in-Err w ↦ rw w.in-Err.ensures.err c.self.invariant
    ]

pub returns-clause-ok : goal.returns-clause-ok
returns-clause-ok g c =
    let entries = c.self.inside.values.entries in
    let n = c.number_of-number.result in
    elim c.match-insert.branch [
      | in-Ok w ↦
          rw (w.result-is, ← c.self.view_is, w.in-Ok.ensures.entries)
          (subst (λ guid. IsPut (entries_of entries) guid c.args.value (entries_of (insert_entry nat_cmp entries n c.args.value))) c.number_of-number.ensures.spelled (λ other. put entries n c.args.value other c.number_of-number.ensures.fits c.self.invariant))
      | in-Err w ↦ rw w.result-is tt
    ]
