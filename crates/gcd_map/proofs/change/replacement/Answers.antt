use Rattle.std.proofs.Common.{◌≡◌, [], ◌∷◌, ◌++◌, List, refl, sym, ap, ◌∙◌, subst, append-nil, append_assoc}
use Rattle.pi_base.specs.Lists.{Each}
use Rattle.gcd_map.specs.{declared.range.GcdRange.GcdRange, Ranges.DoesFit, Growing.Replaces}
use Rattle.gcd_map.proofs.Changes.{no_items, replaced_none, replaced_more}
use Rattle.gcd_map.proofs.change.replacement.Goals as goal

pub met-init : goal.met-init
met-init c = record {
  so = ([], refl, subst (λ (l : List GcdRange). Replaces [] c.args.base c.args.end c.args.effect l) (sym c.new-new.ensures) (replaced_none c.args.base c.args.end c.args.effect));
  fit = c.requires.fit;
}

pub met-preserved : goal.met-preserved
met-preserved c =
    let range = c.in-Some.range.now in let rest = c.in-Some.after.now in
    let is : c.met.rest.now ≡ range ∷ rest = c.in-Some.ensures.cases.0 in
    let done = c.met.invariant.so.0 in
    record {
      so = (
        done ++ range ∷ [],
        append_assoc done (range ∷ []) rest ∙ ap (λ (l : List GcdRange). done ++ l) (sym is) ∙ c.met.invariant.so.1,
        replaced_more done c.met.new c.extend_by.new.ranges range c.args.base c.args.end c.args.effect c.met.invariant.so.2 c.in_ok-extend_by.ensures,
      );
      fit = (subst (λ (l : List GcdRange). Each DoesFit l) is c.met.invariant.fit).1;
    }

pub returns : goal.returns
returns c =
    let done = c.met.invariant.so.0 in
    let none : c.met.rest.now ≡ [] = no_items c.met.rest.now c.in_default.ensures.cases in
    let is : done ≡ c.args.met.now = sym (append-nil done) ∙ ap (λ (l : List GcdRange). done ++ l) (sym none) ∙ c.met.invariant.so.1 in
    subst (λ (l : List GcdRange). Replaces l c.args.base c.args.end c.args.effect c.met.new) is c.met.invariant.so.2
