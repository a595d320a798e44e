use Rattle.boot_reasons.proofs.GiverSteps.{none_noted, noted_on}
use Rattle.boot_reasons.proofs.givers.Givers.note_all.Goals as goal

pub guids-preserved : goal.guids-preserved
guids-preserved g c = λ final rest. c.guids.invariant final
    (noted_on (g.G.GuidSet.has_guid c.args.set.now) c.args.actor c.guids.rest.now _ c.guids.self.map c.note.new.self.map final c.in-len1-up.len_at_least c.in_ok-note.ensures rest)

pub returns : goal.returns
returns g c = c.guids.invariant c.guids.self.map (none_noted (g.G.GuidSet.has_guid c.args.set.now) c.args.actor c.guids.rest.now c.guids.self.map c.in_default.len_below)
