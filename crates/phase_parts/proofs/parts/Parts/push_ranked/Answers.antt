use Rattle.std.proofs.Common.{◌≡◌, ◌-◌, ◌++◌, ◌≤◌, ◌∙◌, List, ℕ, ap, arith, append-nil, length, subst, sym, Some, flat_map}
use Rattle.pi_base.specs.Lists.{numbers}
use Rattle.mod_catalog.specs.declared.limits.TheConstants.{MOST_MODULES}
use Rattle.phase_parts.specs.Parts.{wanted_from}
use Rattle.phase_parts.proofs.VolumeParts.{ranked_are, ranks_more, rank_fits}
use Rattle.phase_parts.proofs.parts.Parts.push_ranked.Goals as goal

pub push_wanted-requires : goal.push_wanted-requires
push_wanted-requires c =
    let f : ℕ → List ℕ = λ rank. wanted_from c.args.phase (Some rank) c.args.volume 0 c.args.catalog.now.modules in
    let whole = ranked_are c.args.phase c.args.catalog.now c.args.volume _ _ c.min-end.result c.count_parts-count.ensures.count c.ranks_end.ensures c.min-end.ensures in
    record {
      few = c.requires.few;
      room = rank_fits f c.ranks.rank c.min-end.result (c.ranks.self) _ MOST_MODULES c.ranks-test.true c.ranks.invariant.parts
          (subst (λ (xs : List ℕ). length (c.args.self.now ++ xs) ≤ MOST_MODULES) (sym whole) c.requires.room);
    }

pub ranks-preserved : goal.ranks-preserved
ranks-preserved c =
    let f : ℕ → List ℕ = λ rank. wanted_from c.args.phase (Some rank) c.args.volume 0 c.args.catalog.now.modules in
    record { parts = ranks_more f c.ranks.rank c.min-end.result (c.ranks.self) (c.push_wanted.new.self) _ c.ranks-test.true c.push_wanted.ensures c.ranks.invariant.parts }

pub returns : goal.returns
returns c =
    let f : ℕ → List ℕ = λ rank. wanted_from c.args.phase (Some rank) c.args.volume 0 c.args.catalog.now.modules in
    let whole = ranked_are c.args.phase c.args.catalog.now c.args.volume _ _ c.min-end.result c.count_parts-count.ensures.count c.ranks_end.ensures c.min-end.ensures in
    let none : c.min-end.result - c.ranks.rank ≡ 0 = omega (arith, c.ranks-test.false) in
    sym (append-nil c.ranks.self) ∙ ap (λ n. c.ranks.self ++ flat_map f (numbers c.ranks.rank n)) (sym none) ∙ c.ranks.invariant.parts ∙ ap (λ xs. c.args.self.now ++ xs) whole
