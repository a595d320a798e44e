use Rattle.std.proofs.Common.{◌≡◌, ◌∷◌, List, refl, subst, ◌≢◌, sym}
use Rattle.std.proofs.lemmas.Result.{err_from_is_err_and}
use Rattle.gcd_map.specs.{declared.fault.GcdFault.GcdFault, declared.fault.GcdCause.TheVariants.Memory, HobFaults.ComesNot, HobFaults.Stops}
use Rattle.pi_base.specs.Lists.{Each}
use Rattle.hob_codec.specs.declared.list.HobPlace.{HobPlace}
use Rattle.gcd_map.specs.HobMap.{resources, resource_at, MayCome, came, with_first}
use Rattle.gcd_map.specs.Places.{IsNear}
use Rattle.gcd_map.proofs.Changes.{no_items}
use Rattle.gcd_map.proofs.Following.{Goes, Gone, goes_first, goes_step, step_stops}
use Rattle.gcd_map.proofs.fill.add_in_order.Goals as goal

pub resources-init : goal.resources-init
resources-init c = record { goes = goes_first MayCome came ComesNot c.args.map.now (resources c.args.bytes.now c.args.places.now); near = c.requires.near }

pub resources-preserved : goal.resources-preserved
resources-preserved c =
    let bytes = c.args.bytes.now in let place = c.in-Some.place.now in let rest = c.in-Some.after.now in
    let is : c.resources.rest.now ≡ place ∷ rest = c.in-Some.ensures.cases.0 in
    let all = resources bytes c.args.places.now in
    let goes : Goes MayCome came ComesNot c.args.map.now all c.resources.map (with_first (resource_at bytes place.at) (resources bytes rest)) =
    subst (λ (l : List HobPlace). Goes MayCome came ComesNot c.args.map.now all c.resources.map (resources bytes l)) is c.resources.invariant.goes in
    record {
      goes = goes_step MayCome came ComesNot c.args.map.now all c.resources.map c.add_at.new.map (resource_at bytes place.at) (resources bytes rest) goes c.in_ok-add_at.ensures;
      near = (subst (λ (l : List HobPlace). Each IsNear l) is c.resources.invariant.near).1;
    }

pub returns-in_err-add_at : goal.returns-in_err-add_at
returns-in_err-add_at c = λ space shows.
    let bytes = c.args.bytes.now in let place = c.in-Some.place.now in let rest = c.in-Some.after.now in
    let is : c.resources.rest.now ≡ place ∷ rest = c.in-Some.ensures.cases.0 in
    let all = resources bytes c.args.places.now in
    let goes : Goes MayCome came ComesNot c.args.map.now all c.resources.map (with_first (resource_at bytes place.at) (resources bytes rest)) =
    subst (λ (l : List HobPlace). Goes MayCome came ComesNot c.args.map.now all c.resources.map (resources bytes l)) is c.resources.invariant.goes in
    let gone = goes space shows in
    let p = err_from_is_err_and c.from_residual.result c.from_residual.ensures.1 in
    rw p.1 (subst (λ (fault : GcdFault). fault.cause ≢ Memory → Stops MayCome came ComesNot space all fault) (sym p.2)
    (λ other. step_stops MayCome came ComesNot space all c.resources.map (resource_at bytes place.at) (resources bytes rest) c.in_err-add_at.field-0.0 gone (c.in_err-add_at.ensures gone.now gone.shows) other))

pub returns : goal.returns
returns c = λ space shows.
    let bytes = c.args.bytes.now in let all = resources bytes c.args.places.now in
    let goes : Goes MayCome came ComesNot c.args.map.now all c.resources.map (resources bytes c.resources.rest.now) = c.resources.invariant.goes in
    let gone : Gone MayCome came ComesNot space all c.resources.map (resources bytes c.resources.rest.now) = goes space shows in
    let empty = no_items c.resources.rest.now c.in_default.ensures.cases in
    (gone.now, gone.ends gone.now (rw empty refl), gone.shows)
