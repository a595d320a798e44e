use Rattle.std.proofs.Common.{ℕ, ◌≡◌, ◌∙◌, false, true, ap, sym, length}
use Rattle.std.proofs.lemmas.List.{length-replicate}
use Rattle.wait_index.specs.PlaceFlags.{flag}
use Rattle.wait_index.proofs.Flags.{none_set, count_none}
use Rattle.wait_index.proofs.place_set.PlaceSet.new.Goals as goal

pub invariant_of-result : goal.invariant_of-result
invariant_of-result c = (
  ap length c.in_ok-flags.ensures ∙ length-replicate 4096 false,
  ap length c.in_ok-blocks.ensures ∙ length-replicate 64 false,
  λ place set.
      let none : flag c.in_ok-flags.flags place ≡ false = ap (λ xs. flag xs place) c.in_ok-flags.ensures ∙ none_set 4096 place in
      let no : false ≡ true = sym none ∙ set in
      absurd (cc),
)

pub returns : goal.returns
returns c =
    let unset = λ (place : ℕ). ap (λ xs. flag xs place) c.in_ok-flags.ensures ∙ none_set 4096 place in
    record { unset = unset; none = count_none c.in_ok-flags.flags unset }
