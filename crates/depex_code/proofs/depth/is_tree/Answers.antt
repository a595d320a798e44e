use Rattle.std.proofs.Common.{◌≡◌, sym, ap, ◌∙◌, Some, None, Option, ℕ, [], refl, length, eq-eqb, option_map, eqb-true}
use Rattle.std.proofs.{lemmas.Bool.false≢true, lemmas.Option.same_Some}
use Rattle.depex_code.specs.TreeCode.{stack_after}
use Rattle.depex_code.proofs.Stacks.{alone-spelled, spelled-alone}
use Rattle.depex_code.proofs.depth.is_tree.Goals as goal

pub returns-in-Some : goal.returns-in-Some
returns-in-Some c =
    let code = c.args.code.now in
    let left : option_map length (stack_after code []) ≡ Some c.in-Some.depth = sym c.depth_of.ensures ∙ c.in-Some.is in (
      λ yes. alone-spelled code (stack_after code []) refl (left ∙ ap Some (eqb-true c.in-Some.depth 1 yes)),
      λ e. eq-eqb c.in-Some.depth 1 (same_Some c.in-Some.depth 1 (sym left ∙ spelled-alone code e)),
    )

pub returns-in-None : goal.returns-in-None
returns-in-None c =
    let code = c.args.code.now in
    let left : option_map length (stack_after code []) ≡ None = sym c.depth_of.ensures ∙ c.in-None.is in
    (λ no. absurd (false≢true no), λ e. let both : ◌≡◌ {A = Option ℕ} (Some 1) None = sym (spelled-alone code e) ∙ left in absurd cc)
