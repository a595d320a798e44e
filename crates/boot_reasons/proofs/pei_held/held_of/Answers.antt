use Rattle.std.proofs.Common.{sym, ◌∙◌, ap, subst, option_copied}
use Rattle.boot_model.specs.PeimState.{IsPeimState}
use Rattle.boot_reasons.specs.Noting.{giver_in}
use Rattle.boot_reasons.proofs.HeldParts.{held_is}
use Rattle.boot_reasons.proofs.pei_held.held_of.Goals as goal

pub returns : goal.returns
returns g c m stands =
    let state : IsPeimState m c.args.number c.state_of.result = subst (λ s. IsPeimState m c.args.number s) (sym c.state_of.ensures) (c.states.ensures m stands c.args.number) in
    held_is c.args.catalog.now m.store (g.M.GuidSet.has_guid c.store.result.now) (giver_in c.args.givers.now.map) c.args.number c.in-Some.reason c.in-Some-part_of.part.now c.in_ok-needs.needs c.in-Ok.change _
    (sym (c.reason_of.ensures m state) ∙ c.in-Some.is) (sym c.part_of.ensures ∙ ap option_copied c.in-Some-part_of.is) c.in_ok-needs.ensures c.in-Ok.ensures
    (g.met.M.PeiStore.knows c.store.result.now m.store (c.store.ensures m stands))
