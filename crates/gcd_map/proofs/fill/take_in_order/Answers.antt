use Rattle.std.proofs.Common.{◌≡◌, ◌∷◌, List, refl, subst, ◌≢◌, sym}
use Rattle.std.proofs.lemmas.Result.{err_from_is_err_and}
use Rattle.gcd_map.specs.{declared.fault.GcdFault.GcdFault, declared.fault.GcdCause.TheVariants.Memory}
use Rattle.pi_base.specs.Lists.{Each}
use Rattle.hob_codec.specs.declared.list.HobPlace.{HobPlace}
use Rattle.gcd_map.specs.HobMap.{allocations, allocation_at, MayBeTaken, taken, with_first}
use Rattle.gcd_map.specs.{HobFaults.IsNotTaken, HobFaults.Stops, Places.IsNear}
use Rattle.gcd_map.proofs.Changes.{no_items}
use Rattle.gcd_map.proofs.Following.{Goes, Gone, goes_first, goes_step, step_stops}
use Rattle.gcd_map.proofs.fill.take_in_order.Goals as goal

pub allocations-init : goal.allocations-init
allocations-init c = record { goes = goes_first MayBeTaken taken IsNotTaken c.args.map.now (allocations c.args.bytes.now c.args.places.now); near = c.requires.near }

pub allocations-preserved : goal.allocations-preserved
allocations-preserved c =
    let bytes = c.args.bytes.now in let place = c.in-Some.place.now in let rest = c.in-Some.after.now in
    let is : c.allocations.rest.now ≡ place ∷ rest = c.in-Some.ensures.cases.0 in
    let all = allocations bytes c.args.places.now in
    let goes : Goes MayBeTaken taken IsNotTaken c.args.map.now all c.allocations.map (with_first (allocation_at bytes place.at) (allocations bytes rest)) =
    subst (λ (l : List HobPlace). Goes MayBeTaken taken IsNotTaken c.args.map.now all c.allocations.map (allocations bytes l)) is c.allocations.invariant.goes in
    record {
      goes = goes_step MayBeTaken taken IsNotTaken c.args.map.now all c.allocations.map c.take_at.new.map (allocation_at bytes place.at) (allocations bytes rest) goes c.in_ok-take_at.ensures;
      near = (subst (λ (l : List HobPlace). Each IsNear l) is c.allocations.invariant.near).1;
    }

pub returns-in_err-take_at : goal.returns-in_err-take_at
returns-in_err-take_at c = λ space shows.
    let bytes = c.args.bytes.now in let place = c.in-Some.place.now in let rest = c.in-Some.after.now in
    let is : c.allocations.rest.now ≡ place ∷ rest = c.in-Some.ensures.cases.0 in
    let all = allocations bytes c.args.places.now in
    let goes : Goes MayBeTaken taken IsNotTaken c.args.map.now all c.allocations.map (with_first (allocation_at bytes place.at) (allocations bytes rest)) =
    subst (λ (l : List HobPlace). Goes MayBeTaken taken IsNotTaken c.args.map.now all c.allocations.map (allocations bytes l)) is c.allocations.invariant.goes in
    let gone = goes space shows in
    let p = err_from_is_err_and c.from_residual.result c.from_residual.ensures.1 in
    rw p.1 (subst (λ (fault : GcdFault). fault.cause ≢ Memory → Stops MayBeTaken taken IsNotTaken space all fault) (sym p.2)
    (λ other. step_stops MayBeTaken taken IsNotTaken space all c.allocations.map (allocation_at bytes place.at) (allocations bytes rest) c.in_err-take_at.field-0.0 gone (c.in_err-take_at.ensures gone.now gone.shows) other))

pub returns : goal.returns
returns c = λ space shows.
    let bytes = c.args.bytes.now in let all = allocations bytes c.args.places.now in
    let goes : Goes MayBeTaken taken IsNotTaken c.args.map.now all c.allocations.map (allocations bytes c.allocations.rest.now) = c.allocations.invariant.goes in
    let gone : Gone MayBeTaken taken IsNotTaken space all c.allocations.map (allocations bytes c.allocations.rest.now) = goes space shows in
    let empty = no_items c.allocations.rest.now c.in_default.ensures.cases in
    (gone.now, gone.ends gone.now (rw empty refl), gone.shows)
