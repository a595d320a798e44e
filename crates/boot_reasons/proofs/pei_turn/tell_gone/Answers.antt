use Rattle.std.proofs.Common.{◌≡◌, Bool, List, [], ◌∷◌, Option, Some, Result, Ok, Err, subst, sym, OnOk, option_to_list}
use Rattle.pi_base.specs.{declared.guid.Guid.Guid, declared.memory.OutOfMemory.OutOfMemory}
use Rattle.store_model.specs.Service.Install.{has_ppi}
use Rattle.explain_text.specs.declared.reasons.Giver.{Giver}
use Rattle.boot_reasons.specs.Noting.{AreNoted}
use Rattle.boot_reasons.proofs.GiverSteps.{noted_over}
use Rattle.boot_reasons.proofs.pei_turn.tell_gone.Goals as goal

-- the one that went
noted_gone : (has other : Guid → Bool) (actor : Giver) (guid : Guid) (gone : Option Guid) (old new : List (Guid × Giver)) (result : Result (Unit {0}) OutOfMemory) → ((guid : Guid) → has guid ≡ other guid) → gone ≡ Some guid
    → OnOk result (AreNoted has actor (guid ∷ []) old new) → OnOk result (AreNoted other actor (option_to_list gone) old new)
noted_gone has other actor guid taken old new (Ok u) same is noted = subst (λ gone. AreNoted other actor (option_to_list gone) old new) (sym is) (noted_over has other actor (guid ∷ []) old new same noted)
noted_gone has other actor guid taken old new (Err e) same is noted = tt

pub note-requires : goal.note-requires
note-requires g c =
    let m = c.requires.state.0 in
    record { order = g.met.M.PeiStore.ordered c.store.result.now m.store (c.store.ensures m c.requires.state.1) }

pub returns-in-Some : goal.returns-in-Some
returns-in-Some g c m stands =
    noted_gone (g.M.GuidSet.has_guid c.store.result.now) (has_ppi m.store) c.args.actor c.in-Some.guid c.args.gone c.args.givers.now.map c.note.new.self.map c.note.result
    (g.met.M.PeiStore.knows c.store.result.now m.store (c.store.ensures m stands)) c.in-Some.is c.note.ensures
