use Rattle.std.proofs.Common.{◌≡◌, Bool, List, ◌++◌, Result, Ok, Err, subst, OnOk, option_to_list}
use Rattle.pi_base.specs.{declared.guid.Guid.Guid, declared.memory.OutOfMemory.OutOfMemory}
use Rattle.store_model.specs.Service.Install.{has_ppi}
use Rattle.explain_text.specs.declared.reasons.Giver.{Giver}
use Rattle.boot_reasons.specs.Noting.{AreNoted}
use Rattle.boot_reasons.proofs.GiverSteps.{noted_over, noted_then}
use Rattle.boot_reasons.proofs.pei_turn.tell_event.Goals as goal

-- the one that went, and then those that came
noted_both : (has other : Guid → Bool) (actor : Giver) (gone there shown : List Guid) (old mid new : List (Guid × Giver)) (result : Result (Unit {0}) OutOfMemory) → ((guid : Guid) → has guid ≡ other guid) → shown ≡ there
    → AreNoted other actor gone old mid → OnOk result (AreNoted has actor shown mid new) → OnOk result (AreNoted other actor (gone ++ there) old new)
noted_both has other actor gone there shown old mid new (Ok u) same are first second =
    noted_then other actor gone there old mid new first (noted_over has other actor there mid new same (subst (λ guids. AreNoted has actor guids mid new) are second))
noted_both has other actor gone there shown old mid new (Err e) same are first second = tt

pub tell_gone-requires : goal.tell_gone-requires
tell_gone-requires g c = record { state = c.requires.state }

pub returns : goal.returns
returns g c m stands =
    let event = c.args.event.now in
    noted_both (g.M.GuidSet.has_guid c.store.result.now) (has_ppi m.store) c.args.actor (option_to_list event.changes.gone) event.changes.there.items c.as_slice.result.now c.args.givers.now.map c.tell_gone.new.givers.map c.note_all.new.self.map c.note_all.result
    (g.met.M.PeiStore.knows c.store.result.now m.store (c.store.ensures m stands)) c.as_slice.ensures.value (c.in_ok-tell_gone.ensures m stands) c.note_all.ensures
