use Rattle.std.proofs.Common.{◌≡◌, [], Option, subst, sym, IfSome, option_to_list}
use Rattle.pi_base.specs.declared.guid.Guid.{Guid}
use Rattle.pei_dispatch.specs.Noted.{IsNoted}
use Rattle.pei_dispatch.proofs.Notes.{taken_away}
use Rattle.pei_dispatch.proofs.change.take_away.Goals as goal

pub returns-in-Some : goal.returns-in-Some
returns-in-Some c catalog has is told =
    let guid = c.in-Some.guid in
    let still = c.args.is_still_there in
    let one : has guid ≡ still = subst (λ (o : Option Guid). IfSome o (λ guid. has guid ≡ still)) c.in-Some.is told in
    subst (λ (o : Option Guid). IsNoted catalog has [] (option_to_list o) c.args.index.now c.changed.new.self) (sym c.in-Some.is)
    (taken_away catalog has still guid c.args.index.now c.changed.new.self is one (c.changed.ensures.index catalog is) (c.changed.ensures.set catalog is) (c.changed.ensures.owed catalog is) c.changed.ensures.known)
