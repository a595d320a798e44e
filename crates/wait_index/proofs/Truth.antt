-- What an expression says depends on the GUIDs alone that it pushes.
use Rattle.std.proofs.Common.{◌≡◌, ℕ, Bool, true, false, not, ◌&&◌, ◌||◌, cond, List, Option, Some, None, ap, refl, ◌∙◌, is_some, unwrap_or, option_map}
use Rattle.std.proofs.lemmas.Slice.Eq.{bytes_eq-Decides}
use Rattle.pi_base.specs.{declared.guid.Guid.Guid, declared.phase.Phase.Phase}
use Rattle.pi_base.specs.{declared.phase.Phase.TheVariants.Pei, declared.phase.Phase.TheVariants.Dxe, Guids.same_guid}
use Rattle.depex_code.specs.Tree.{DepexTree, True, False, Push, Not, And, Or, truth}
use Rattle.depex_code.specs.declared.depex.Depex.TheVariants as D
use Rattle.mod_catalog.specs.{declared.catalogue.Catalog.Catalog, declared.catalogue.Part.Part, declared.catalogue.PartExpr.PartExpr}
use Rattle.mod_catalog.specs.declared.catalogue.PartExpr.TheVariants as E
use Rattle.boot_model.specs.EvaluationBound.{tree_pushes, expression_pushes, part_pushes}
use Rattle.mod_catalog.specs.Parts.{part_at}
use Rattle.wait_index.specs.declared.verdict.Verdict.TheVariants.{Yes}
use Rattle.wait_index.specs.Verdict.{verdict_by, expression_verdict, part_verdict, verdict_in, verdict_of}

pub one_guid : (a b : Guid) → same_guid a b ≡ true → a ≡ b
one_guid a b e = ap (λ (xs : List ℕ). record { 0 = xs }) ((bytes_eq-Decides a.0 b.0).0 e)

pub same_self : (a : Guid) → same_guid a a ≡ true
same_self a = (bytes_eq-Decides a.0 a.0).1 refl

or_first : (a b : Bool) → a ≡ true → (a || b) ≡ true
or_first true b e = refl
or_first false b e = absurd (cc)

or_second : (a b : Bool) → b ≡ true → (a || b) ≡ true
or_second true b e = refl
or_second false b e = e

pub truth_same : (has other : Guid → Bool) (node : DepexTree) → ((guid : Guid) → tree_pushes guid node ≡ true → has guid ≡ other guid) → truth has node ≡ truth other node
truth_same has other True h = refl
truth_same has other False h = refl
truth_same has other (Push guid) h = h guid (same_self guid)
truth_same has other (Not node) h = ap not (truth_same has other node h)
truth_same has other (And first second) h =
    let one = truth_same has other first (λ guid e. h guid (or_first (tree_pushes guid first) (tree_pushes guid second) e)) in
    let two = truth_same has other second (λ guid e. h guid (or_second (tree_pushes guid first) (tree_pushes guid second) e)) in
    ap (λ b. b && truth has second) one ∙ ap (λ b. truth other first && b) two
truth_same has other (Or first second) h =
    let one = truth_same has other first (λ guid e. h guid (or_first (tree_pushes guid first) (tree_pushes guid second) e)) in
    let two = truth_same has other second (λ guid e. h guid (or_second (tree_pushes guid first) (tree_pushes guid second) e)) in
    ap (λ b. b || truth has second) one ∙ ap (λ b. truth other first || b) two

expression_same : (phase : Phase) (has other : Guid → Bool) (expr : PartExpr) → ((guid : Guid) → expression_pushes guid expr ≡ true → has guid ≡ other guid)
    → expression_verdict phase has expr ≡ expression_verdict phase other expr
expression_same phase has other E.Absent h = refl
expression_same phase has other (E.Malformed at) h = refl
expression_same phase has other (E.Held (D.Before name)) h = refl
expression_same phase has other (E.Held (D.After name)) h = refl
expression_same phase has other (E.Held (D.Expr sor node)) h = ap verdict_by (truth_same has other node h)

part_same : (phase : Phase) (has other : Guid → Bool) (part : Part) → ((guid : Guid) → expression_pushes guid part.expr ≡ true → has guid ≡ other guid)
    → part_verdict phase has part ≡ part_verdict phase other part
part_same Pei has other part h = ap (cond (is_some part.rank) Yes) (expression_same Pei has other part.expr h)
part_same Dxe has other part h = expression_same Dxe has other part.expr h

in_same : (phase : Phase) (has other : Guid → Bool) (part : Option Part)
    → ((guid : Guid) → unwrap_or (option_map (λ p. expression_pushes guid p.expr) part) false ≡ true → has guid ≡ other guid)
    → verdict_in phase has part ≡ verdict_in phase other part
in_same phase has other None h = refl
in_same phase has other (Some part) h = part_same phase has other part h

pub verdict_same : (phase : Phase) (catalog : Catalog) (has other : Guid → Bool) (number : ℕ) → ((guid : Guid) → part_pushes phase catalog guid number ≡ true → has guid ≡ other guid)
    → verdict_of phase catalog has number ≡ verdict_of phase catalog other number
verdict_same phase catalog has other number h = in_same phase has other (part_at phase catalog number) h
