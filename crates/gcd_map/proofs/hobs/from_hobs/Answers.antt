use Rattle.std.proofs.Common.{◌≢◌, inr, ◌^◌, List, sym, subst}
use Rattle.std.proofs.lemmas.Result.{err_from_is_err_and}
use Rattle.hob_codec.specs.declared.list.HobPlace.{HobPlace}
use Rattle.gcd_map.specs.{AddressSpace.empty_space, HobFaults.IsFirstFault, HobFaults.IsMemoryFault, declared.fault.GcdFault.GcdFault}
use Rattle.gcd_map.specs.HobMap.{first_cpu, AreBitsOf, IsFilled}
use Rattle.gcd_map.specs.declared.fault.GcdCause.TheVariants.{Memory}
use Rattle.gcd_map.proofs.hobs.from_hobs.Goals as goal

pub returns-clause-found : goal.returns-clause-found
returns-clause-found c =
    let bytes = c.args.bytes.now in let bits = c.in_ok-bits.bits in
    let space = empty_space (2 ^ bits) in
    let filled = c.in_ok-fill.ensures space c.in_ok-map.ensures in (
      filled.0,
      record {
        places = c.in_ok-places.places;
        hobs = c.in_ok-places.ensures.found;
        bits = bits;
        sized = subst (λ (l : List HobPlace). AreBitsOf (first_cpu bytes l) bits) c.as_slice.ensures c.in_ok-bits.ensures;
        filled = subst (λ (l : List HobPlace). IsFilled bytes l space filled.0) c.as_slice-2.ensures filled.1;
      },
      filled.2,
    )

pub returns-in_err-fill-clause-fault : goal.returns-in_err-fill-clause-fault
returns-in_err-fill-clause-fault c =
    let bytes = c.args.bytes.now in let bits = c.in_ok-bits.bits in
    let space = empty_space (2 ^ bits) in
    let p = err_from_is_err_and c.from_residual-in_err-fill.result c.from_residual-in_err-fill.ensures.1 in
    rw p.1 (subst (λ (fault : GcdFault). fault.cause ≢ Memory → IsFirstFault bytes fault) (sym p.2) (λ other.
    let fault = c.in_err-fill.ensures space c.in_ok-map.ensures other in inr (
      c.in_ok-places.places,
      c.in_ok-places.ensures.found,
      inr (
        bits,
        subst (λ (l : List HobPlace). AreBitsOf (first_cpu bytes l) bits) c.as_slice.ensures c.in_ok-bits.ensures,
        subst (λ (l : List HobPlace). IsMemoryFault bytes l space c.in_err-fill.field-0.0) c.as_slice-2.ensures fault,
      ),
    )))
